pub mod NumberLemmas
pub mod DecimalLemmas
pub mod ReplyLemmas
pub mod LineLemmas
pub mod StreamLemmas

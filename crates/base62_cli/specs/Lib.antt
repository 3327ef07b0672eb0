pub mod Fault
pub mod BuiltIn
pub mod Lines
pub mod Reply
pub mod Output

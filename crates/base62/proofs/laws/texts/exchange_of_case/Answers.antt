use Rattle.base62.proofs.CaseLemmas.{canonical_in_alternative, canonical_in_standard, canonical_of_alternative, decoding_exchanged}
use Rattle.base62.proofs.laws.texts.exchange_of_case.Goals as goal

pub returns-clause-to_alternative : goal.returns-clause-to_alternative
returns-clause-to_alternative c = canonical_in_alternative

pub returns-clause-from_alternative : goal.returns-clause-from_alternative
returns-clause-from_alternative c = canonical_in_standard

pub returns-clause-to_standard : goal.returns-clause-to_standard
returns-clause-to_standard c = canonical_of_alternative

pub returns-clause-decoded : goal.returns-clause-decoded
returns-clause-decoded c = decoding_exchanged

use Rattle.std.proofs.Common.{take}
use Rattle.std.specs.String.{string_bytes}
use Rattle.base62.proofs.CanonicalLemmas.{one_canonical}
use Rattle.base62.proofs.laws.texts.canonical_round_trip.Goals as goal

pub returns-clause-written : goal.returns-clause-written
returns-clause-written c = λ B ok n old new text len decoded reads same into.
    one_canonical B ok n (take len new) text into.text.1 (reads.canonical n same)

pub returns-clause-string_written : goal.returns-clause-string_written
returns-clause-string_written c = λ B ok n text decoded reads same string answers.
    one_canonical B ok n (string_bytes string) text answers.text (reads.canonical n same)

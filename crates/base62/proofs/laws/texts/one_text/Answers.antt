use Rattle.std.proofs.Common.{arith}
use Rattle.base62.proofs.CanonicalLemmas.{one_canonical, canonical_fits}
use Rattle.base62.proofs.LengthLemmas.{no_leading_zero, canonical_of_value}
use Rattle.base62.proofs.WidthLemmas.{canonical_within}
use Rattle.base62.proofs.laws.texts.one_text.Goals as goal

pub returns-clause-exists : goal.returns-clause-exists
returns-clause-exists c = λ B ok n small. let some = canonical_within B ok 22 n (omega arith) (omega arith) in (some.0, some.1)

pub returns-clause-only : goal.returns-clause-only
returns-clause-only c = one_canonical

pub returns-clause-lengths : goal.returns-clause-lengths
returns-clause-lengths c = λ B ok n small text canonical.
    let most = canonical_fits B text n 22 canonical (canonical_within B ok 22 n (omega arith) (omega arith)) in
    (canonical.denotes.nonempty, most)

pub returns-clause-within : goal.returns-clause-within
returns-clause-within c = canonical_within

pub returns-clause-plain : goal.returns-clause-plain
returns-clause-plain c = λ B ok text n denotes plain. rw denotes.value_is at (canonical_of_value B ok text denotes.letters plain)

pub returns-clause-leading : goal.returns-clause-leading
returns-clause-leading c = λ B ok text n canonical. no_leading_zero B ok text n canonical

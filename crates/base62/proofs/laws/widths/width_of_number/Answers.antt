use Rattle.base62.specs.Alphabet.{standard}
use Rattle.base62.proofs.AlphabetLemmas.{standard_is_alphabet}
use Rattle.base62.proofs.CanonicalLemmas.{canonical_fits}
use Rattle.base62.proofs.FixedLemmas.{digit_count_most}
use Rattle.base62.proofs.WidthLemmas.{canonical_within}
use Rattle.base62.proofs.laws.widths.width_of_number.Goals as goal

pub returns-clause-count : goal.returns-clause-count
returns-clause-count c = λ some small count has. digit_count_most standard standard_is_alphabet c.args.n count has c.args.k some small

pub returns-clause-length : goal.returns-clause-length
returns-clause-length c = λ some small B text ok canonical. canonical_fits B text c.args.n c.args.k canonical (canonical_within B ok c.args.k c.args.n some small)

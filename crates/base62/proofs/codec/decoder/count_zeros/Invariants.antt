use Rattle.std.proofs.Common.{◌≡◌, ℕ, ◌<◌, get_or}
use Rattle.base62.specs.Alphabet.{zero_letter}
use Rattle.base62.proofs.codec.decoder.count_zeros.Given as goal

abbrev pub invariant-loop-i : goal.invariant-loop-i
invariant-loop-i l = (k : ℕ) → k < l.i → get_or l.input k 0 ≡ zero_letter l.tables.letters

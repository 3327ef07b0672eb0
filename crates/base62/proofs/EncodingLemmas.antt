-- The result of encoding into a buffer.
use Rattle.std.proofs.Common.{◌≡◌, ℕ, ◌+◌, ◌^◌, ◌<◌, ◌≤◌, List, ◌++◌, length, take, Ok, Err, refl, sym, ◌∙◌, arith}
use Rattle.std.proofs.lemmas.Bool.{false≢true}
use Rattle.std.proofs.lemmas.List.{take_all, take_at}
use Rattle.base62.specs.declared.fault.EncodeError.TheVariants.{BufferTooSmall}
use Rattle.base62.specs.Alphabet.{IsAlphabet}
use Rattle.base62.specs.Canonical.{IsCanonical, DigitCount}
use Rattle.base62.specs.Decoding.{decoding}
use Rattle.base62.specs.Fixed.{fixed, WritesFixed}
use Rattle.base62.specs.Steps.{EncodesCounted, encoding_steps}
use Rattle.base62.proofs.FixedLemmas.{length-fixed, digit_count_some, digit_count_exact, digit_count_canonical}
use Rattle.base62.proofs.ResultLemmas.{decoding-denotes}
use Rattle.base62.proofs.WritingLemmas.{written_front, written_others, written_length}
use Rattle.base62.proofs.StepsLemmas.{most_steps}

-- a number of a given count of letters
module _ (B : List ℕ) (ok : IsAlphabet B) (n count : ℕ) (small : n < 2 ^ 128) (has : DigitCount n count) (few : count ≤ 22) where
  -- where they fit, they are written
  pub encodes : (old new : List ℕ) (before after : ℕ) → count ≤ length old
      → WritesFixed B count n old new → after ≡ before + encoding_steps count
      → EncodesCounted B n old new before after (Ok count)
  encodes old new before after room writes steps =
      let text : take count new ≡ fixed B count n = written_front B count n old new writes in
      let canonical : IsCanonical B (fixed B count n) n = digit_count_canonical B ok n count has in
      record {
        answer = record {
          fits = (λ _. (fixed B count n, canonical, omega (arith, length-fixed B count n)), λ _. refl);
          text = (omega (arith, written_length B count n old new writes room), rw text canonical);
          back = rw text (decoding-denotes B ok n small (fixed B count n) canonical.denotes);
          others = written_others B count n old new writes;
          short = (digit_count_some B ok n count has, few);
          refused = tt;
          roomy = λ _. refl;
        };
        steps = steps;
        most = omega (arith, most_steps count few);
      }

  -- where they fill it, it is the text, also as the front of something longer
  module _ (old new behind : List ℕ) (len : ℕ) (full : length old ≡ count) (is : len ≡ count) (writes : WritesFixed B count n old new) where
    filled : take len (new ++ behind) ≡ fixed B count n
    filled =
        let size : length new ≡ count = omega (arith, full, written_length B count n old new writes (omega arith)) in
        let front : take len (new ++ behind) ≡ new = rw is (take_at new behind count size) in
        front ∙ sym (take_all count new (omega (arith, size))) ∙ written_front B count n old new writes

    pub filled_canonical : IsCanonical B (take len (new ++ behind)) n
    filled_canonical = rw filled (digit_count_canonical B ok n count has)

    pub filled_back : decoding B (take len (new ++ behind)) ≡ Ok n
    filled_back = decoding-denotes B ok n small (take len (new ++ behind)) filled_canonical.denotes

  -- where they do not, nothing is
  pub encodes_none : (old : List ℕ) (before : ℕ) → length old < count
      → EncodesCounted B n old old before before (Err BufferTooSmall)
  encodes_none old before short = record {
    answer = record {
      fits = (λ e. absurd (false≢true e), λ fits. absurd (omega (arith, digit_count_exact B ok n count has fits.0 fits.1, fits.2)));
      text = tt;
      back = tt;
      others = tt;
      short = tt;
      refused = refl;
      roomy = λ wide. absurd (omega arith);
    };
    steps = refl;
    most = omega arith;
  }

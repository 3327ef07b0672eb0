-- The results of fixed decoding.
use Rattle.std.proofs.Common.{◌≡◌, ◌≢◌, ℕ, List, length, Ok, Err, refl}
use Rattle.std.proofs.lemmas.Bool.{eq-eqb, ne_eqb}
use Rattle.base62.specs.declared.fault.DecodeError.{DecodeError}
use Rattle.base62.specs.declared.fault.DecodeError.TheVariants.{InvalidBase62Byte}
use Rattle.base62.specs.declared.fault.FixedError.TheVariants.{WrongLength, Decode}
use Rattle.base62.specs.Alphabet.{IsAlphabet}
use Rattle.base62.specs.Decoding.{decoding}
use Rattle.base62.specs.Fixed.{DecodesFixed}
use Rattle.base62.proofs.ResultLemmas.{decoding_accepts, decoding-denotes, names_first}

module _ (B : List ℕ) (w : ℕ) (text : List ℕ) where
  -- a text of another length
  pub fixed_wrong : length text ≢ w → DecodesFixed B w text (Err WrongLength)
  fixed_wrong wrong = record {
    exact = rw (ne_eqb (length text) w wrong) refl;
    accepted = λ n is small. absurd (wrong is.size);
    of_width = λ n same. cc;
    decoded = λ n size fine. absurd (wrong size);
    back = λ n same. cc;
    other = λ _. refl;
    wrong = λ _. wrong;
    refused = λ fault size is. absurd (wrong size);
    fault = λ fault same. cc;
    named = λ byte index same. cc;
  }

  module _ (ok : IsAlphabet B) (size : length text ≡ w) where
    -- a text of w bytes that decoding rejects
    pub fixed_refused : (e : DecodeError) → decoding B text ≡ Err e
        → DecodesFixed B w text (Err (Decode e))
    fixed_refused e is = record {
      exact = rw (eq-eqb (length text) w size, is) refl;
      accepted = λ n has small. let fine = decoding-denotes B ok n small text has.denotes in absurd (cc);
      of_width = λ n same. cc;
      decoded = λ n _ fine. absurd (cc);
      back = λ n same. cc;
      other = λ wrong. absurd (wrong size);
      wrong = λ same. cc;
      refused = λ fault _ same. cc;
      fault = λ fault same. (size, cc);
      named = λ byte index same. let equal : e ≡ InvalidBase62Byte byte index = cc in rw (is, equal) at (names_first B ok text);
    }

    -- and one that it accepts
    pub fixed_number : (n : ℕ) → decoding B text ≡ Ok n → DecodesFixed B w text (Ok n)
    fixed_number n is = record {
      exact = rw (eq-eqb (length text) w size, is) refl;
      accepted = λ m has small. let fine = decoding-denotes B ok m small text has.denotes in cc;
      of_width = λ m same. record { size = size; denotes = (decoding_accepts B ok text m (cc)).0 };
      decoded = λ m _ fine. cc;
      back = λ m same. cc;
      other = λ wrong. absurd (wrong size);
      wrong = λ same. cc;
      refused = λ fault _ same. cc;
      fault = λ fault same. cc;
      named = λ byte index same. cc;
    }

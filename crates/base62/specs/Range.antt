-- Ranges: the numbers whose texts of one width, which may be any, share a prefix.
use Rattle.std.specs.Prelude.{◌≡◌, ℕ, ◌+◌, ◌-◌, ◌*◌, ◌^◌, ◌<◌, ◌≤◌, ◌↔◌, ◌==◌, nat_lt, nat_le, min, if◌then◌else◌}
use Rattle.std.specs.Prelude.{List, length, take, Option, Some, None, Result, Ok, Err, IsOk}
use Rattle.std.specs.List.{list_all}
use Rattle.base62.specs.declared.fault.DecodeError.{DecodeError}
use Rattle.base62.specs.declared.fault.DecodeError.TheVariants.{InvalidBase62Byte}
use Rattle.base62.specs.Alphabet.{AreLetters, is_letter}
use Rattle.base62.specs.Value.{value}
use Rattle.base62.specs.Fixed.{IsFixed}
use Rattle.base62.specs.Decoding.{first_invalid, IsFirstInvalid}
use Rattle.base62.specs.Order.{IsNotAfter, Ascends}

-- a text begins with a prefix
abbrev pub BeginsWith : List ℕ → List ℕ → Type 0
BeginsWith prefix text = take (length prefix) text ≡ prefix

-- no text of w letters of a number below 2^128 begins with the prefix
abbrev pub BeginsNone : List ℕ → ℕ → List ℕ → Type 0
BeginsNone B w prefix =
    (n : ℕ) (text : List ℕ) → n < 2 ^ 128 → IsFixed B w text n → BeginsWith prefix text → ⊥

-- the texts that begin with the prefix are those of the numbers from the least to the greatest
pub record BeginsTextsOf (B : List ℕ) (w : ℕ) (prefix : List ℕ) (least greatest : ℕ) : Type 0 where
  pub some : least ≤ greatest
  pub texts : (n : ℕ) (text : List ℕ) → n < 2 ^ 128 → IsFixed B w text n
      → (BeginsWith prefix text ↔ ((least ≤ n) × (n ≤ greatest)))

-- in lexicographic order they are those from the text of the least to the text of the greatest
abbrev pub BeginsTextsBetween : List ℕ → ℕ → List ℕ → ℕ → ℕ → Type 0
BeginsTextsBetween B w prefix least greatest = (low text high : List ℕ) (n : ℕ) → n < 2 ^ 128
    → IsFixed B w low least → IsFixed B w text n → IsFixed B w high greatest
    → (BeginsWith prefix text ↔ (IsNotAfter low text × IsNotAfter text high))

-- the number of texts of w letters that begin with a prefix of k letters, for k up to w: 62^(w-k)
abbrev pub span : ℕ → List ℕ → ℕ
span w prefix = 62 ^ (w - length prefix)

-- n is below 2^128 and in the interval of a prefix: at least the prefix's value times the span, and
-- less than one span more; the interval is empty if w is 0 or the prefix has more than w letters
pub record IsInInterval (B : List ℕ) (w : ℕ) (prefix : List ℕ) (n : ℕ) : Type 0 where
  pub wide : 0 < w
  pub short : length prefix ≤ w
  pub small : n < 2 ^ 128
  pub from : value B prefix * span w prefix ≤ n
  pub below : n < (value B prefix + 1) * span w prefix

-- the least and the greatest number in the interval of a prefix of letters, if it has any
unfoldable pub interval_ends : List ℕ → ℕ → List ℕ → Option (ℕ × ℕ)
interval_ends B w prefix =
    if w == 0 then None
    else if nat_lt w (length prefix) then None
    else if nat_le (2 ^ 128) (value B prefix * span w prefix) then None
    else Some
    (value B prefix * span w prefix, min ((value B prefix + 1) * span w prefix - 1) (2 ^ 128 - 1))

-- the range of a prefix: the ends of its interval, or the error of its first byte that is not
-- a letter
abbrev pub range_of : List ℕ → ℕ → List ℕ → Result (Option (ℕ × ℕ)) DecodeError
range_of B w prefix =
    if list_all (is_letter B) prefix then Ok (interval_ends B w prefix)
    else Err (first_invalid B prefix)

-- What the range of a prefix says. A prefix of letters is accepted. If it has ends, the numbers
-- below 2^128 from the one to the other are those whose texts of w letters begin with it. If the
-- alphabet ascends, these texts are those from the one end's text to the other's in lexicographic
-- order. If a prefix has no ends, no text begins with it. Any other prefix is rejected with its
-- first byte that is not a letter, and no text begins with it.
pub record TellsRange
    (B : List ℕ) (w : ℕ) (prefix : List ℕ) (result : Result (Option (ℕ × ℕ)) DecodeError)
    : Type 0 where
  pub exact : result ≡ range_of B w prefix
  pub accepted : IsOk result ↔ AreLetters B prefix
  pub named : (byte index : ℕ) → result ≡ Err (InvalidBase62Byte byte index)
      → IsFirstInvalid B prefix byte index
  pub some : (ends : ℕ × ℕ) → result ≡ Ok (Some ends) → ends.0 ≤ ends.1
  pub within : (ends : ℕ × ℕ) → result ≡ Ok (Some ends) → ends.1 < 62 ^ w
  pub begins : (ends : ℕ × ℕ) (n : ℕ) (text : List ℕ) → result ≡ Ok (Some ends) → n < 2 ^ 128
      → IsFixed B w text n → BeginsWith prefix text → (ends.0 ≤ n) × (n ≤ ends.1)
  pub inside : (ends : ℕ × ℕ) (n : ℕ) (text : List ℕ) → result ≡ Ok (Some ends) → n < 2 ^ 128
      → IsFixed B w text n → ends.0 ≤ n → n ≤ ends.1 → BeginsWith prefix text
  pub none : (n : ℕ) (text : List ℕ) → result ≡ Ok None → n < 2 ^ 128
      → IsFixed B w text n → BeginsWith prefix text → ⊥
  pub refused : (fault : DecodeError) (n : ℕ) (text : List ℕ) → result ≡ Err fault
      → IsFixed B w text n → BeginsWith prefix text → ⊥
  pub from : Ascends B → (ends : ℕ × ℕ) (n : ℕ) (low text : List ℕ) → result ≡ Ok (Some ends)
      → n < 2 ^ 128 → IsFixed B w low ends.0 → IsFixed B w text n → BeginsWith prefix text
      → IsNotAfter low text
  pub to : Ascends B → (ends : ℕ × ℕ) (n : ℕ) (text high : List ℕ) → result ≡ Ok (Some ends)
      → n < 2 ^ 128 → IsFixed B w text n → IsFixed B w high ends.1 → BeginsWith prefix text
      → IsNotAfter text high
  pub taken : Ascends B → (ends : ℕ × ℕ) (n : ℕ) (low text high : List ℕ)
      → result ≡ Ok (Some ends) → n < 2 ^ 128 → IsFixed B w low ends.0 → IsFixed B w text n
      → IsFixed B w high ends.1 → IsNotAfter low text → IsNotAfter text high
      → BeginsWith prefix text

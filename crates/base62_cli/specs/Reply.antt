-- The reply to a line.
use Rattle.std.specs.Prelude.{◌≡◌, ℕ, ◌-◌, ◌^◌, ◌&&◌, nat_eq, nat_lt, Bool, List, ◌++◌, length, map, drop, codes, decimal, Result, Ok, Err}
use Rattle.std.specs.Bool.{MatchBool}
use Rattle.std.specs.List.{starts_with}
use Rattle.std.specs.Str.{all_ascii_digits}
use Rattle.base62.specs.declared.fault.DecodeError.{DecodeError}
use Rattle.base62.specs.Alphabet.{standard, alternative}
use Rattle.base62.specs.Places.{sum_over_places}
use Rattle.base62.specs.Canonical.{IsCanonical}
use Rattle.base62.specs.Decoding.{decoding}
use Rattle.base62.specs.Fault.{decode_error_text}

-- the number that any count of decimal digits denotes; 48 is `0`
unfoldable pub decimal_value : List ℕ → ℕ
decimal_value text = sum_over_places 10 (map (λ c. c - 48) text)

-- one or more decimal digits of a value below 2^128
unfoldable pub is_number : List ℕ → Bool
is_number text =
    nat_lt 0 (length text) && all_ascii_digits text && nat_lt (decimal_value text) (2 ^ 128)

-- the reply to a text that is to be encoded over an alphabet: the canonical text of its number
abbrev pub IsEncodeReply : List ℕ → List ℕ → List ℕ → Type 0
IsEncodeReply B text reply =
    MatchBool (is_number text) (IsCanonical B reply (decimal_value text))
    (reply ≡ codes "fault: not a number")

-- a number in decimal, or what is wrong
abbrev pub decoded_text : Result ℕ DecodeError → List ℕ
decoded_text (Ok n) = decimal n
decoded_text (Err e) = codes "fault: " ++ decode_error_text e

-- the reply to a text that is to be decoded over an alphabet
abbrev pub decode_reply : List ℕ → List ℕ → List ℕ
decode_reply B text = decoded_text (decoding B text)

-- A line is a command, which is three letters and one space, and then a text. The text goes up to
-- the line's end and may be empty.
unfoldable pub IsReply : List ℕ → List ℕ → Type 0
IsReply line reply =
    MatchBool (starts_with nat_eq line (codes "enc "))
    (IsEncodeReply standard (drop 4 line) reply)
    (MatchBool (starts_with nat_eq line (codes "alt "))
    (IsEncodeReply alternative (drop 4 line) reply)
    (MatchBool (starts_with nat_eq line (codes "dec "))
    (reply ≡ decode_reply standard (drop 4 line))
    (MatchBool (starts_with nat_eq line (codes "adc "))
    (reply ≡ decode_reply alternative (drop 4 line))
    (reply ≡ codes "fault: unknown command"))))

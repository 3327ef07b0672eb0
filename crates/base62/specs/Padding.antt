-- Texts padded to a width, which counts characters.
use Rattle.std.specs.Prelude.{ℕ, ◌-◌, ◌/◌, ◌==◌, nat_le, if◌then◌else◌, List, ◌++◌, Option, Some, None, is_none}
use Rattle.std.specs.List.{repeat}
use Rattle.std.specs.Option.{option_map}
use Rattle.std.specs.Char.{encode_utf8}
use Rattle.std.specs.Fmt.{char_count}
use Rattle.std.specs.declared.fmt.Alignment.{Alignment}
use Rattle.std.specs.declared.fmt.Alignment.TheVariants.{Left, Right, Center}

-- a repeated fill, which may be any character
abbrev pub fills : ℕ → ℕ → List ℕ
fills fill count = repeat count (encode_utf8 fill)

-- a text padded with the missing characters: after a left-aligned text, before a right-aligned one;
-- half of them, rounded down, before a centred one, and the others after it
abbrev pub aligned : Alignment → ℕ → ℕ → List ℕ → List ℕ
aligned Left fill missing text = text ++ fills fill missing
aligned Right fill missing text = fills fill missing ++ text
aligned Center fill missing text =
    fills fill (missing / 2) ++ text ++ fills fill (missing - missing / 2)

-- a text padded to a width; it is unchanged without a width, and if it is as long or longer
abbrev pub padded_to : Option ℕ → ℕ → Alignment → List ℕ → List ℕ
padded_to None fill alignment text = text
padded_to (Some width) fill alignment text =
    if nat_le width (char_count text) then text
    else aligned alignment fill (width - char_count text) text

-- the alignment of a formatter's number for it: 1, 2 and 3 are `<`, `^` and `>`; 0 means that none
-- is stated, and a text is left-aligned then; other numbers have none
abbrev pub alignment_of : ℕ → Option Alignment
alignment_of number =
    if number == 0 then Some Left
    else if number == 1 then Some Left
    else if number == 2 then Some Center else if number == 3 then Some Right else None

-- what `Display` writes for the text: the padded text; nothing is said if a precision is stated, or
-- for a number that is not an alignment
unfoldable pub displayed : Option ℕ → Option ℕ → ℕ → ℕ → List ℕ → Option (List ℕ)
displayed precision width fill number text =
    if is_none precision
    then option_map (λ alignment. padded_to width fill alignment text) (alignment_of number)
    else None

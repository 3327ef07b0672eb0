-- Strings for UUIDs.
use Rattle.std.specs.Prelude.{◌≡◌, ◌<◌, ◌-◌, ◌/◌, ◌%◌, ◌⊎◌, ℕ, List, [], ◌∷◌, ◌++◌, codes, flat_map, length, map, take, drop, slice_index, slice_range}
use Rattle.std.specs.Char.{digit_char, to_ascii_lowercase}
use Rattle.base62.specs.Uuid.{IsUuid}

-- the 32 hexadecimal digits of a UUID in lowercase, two for each byte
abbrev pub digits : List ℕ → List ℕ
digits uuid = flat_map (λ byte. digit_char (byte / 16) ∷ digit_char (byte % 16) ∷ []) uuid

-- digits with hyphens after the digits 8, 12, 16 and 20
abbrev pub hyphenated : List ℕ → List ℕ
hyphenated text =
    slice_range text 0 8 ++ codes "-" ++ slice_range text 8 12 ++ codes "-" ++ slice_range text 12 16
    ++ codes "-" ++ slice_range text 16 20 ++ codes "-" ++ slice_range text 20 32

-- the text in lowercase is the digits of the UUID, without hyphens or with them
pub record AreDigitsOf (uuid text : List ℕ) : Type 0 where
  pub bytes : IsUuid uuid
  pub digits : (map to_ascii_lowercase text ≡ digits uuid)
      ⊎ (map to_ascii_lowercase text ≡ hyphenated (digits uuid))

-- the text begins with `{` and ends with `}`
pub record IsInBraces (text : List ℕ) : Type 0 where
  pub size : 1 < length text
  pub opens : slice_index text 0 ≡ 123
  pub closes : slice_index text (length text - 1) ≡ 125

-- the bytes between the first and the last
abbrev pub inner : List ℕ → List ℕ
inner text = take (length text - 2) (drop 1 text)

-- the text begins with `urn:uuid:` in either case
pub record HasUrn (text : List ℕ) : Type 0 where
  pub size : 8 < length text
  pub urn : map to_ascii_lowercase (take 9 text) ≡ codes "urn:uuid:"

-- A text is a string for a UUID: its digits, which may be in braces, or after `urn:uuid:` in either
-- case.
abbrev pub IsUuidString : List ℕ → List ℕ → Type 0
IsUuidString text uuid =
    AreDigitsOf uuid text
    ⊎ ((IsInBraces text × AreDigitsOf uuid (inner text))
    ⊎ (HasUrn text × AreDigitsOf uuid (drop 9 text)))

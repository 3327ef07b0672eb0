-- Exchange of uppercase and lowercase letters.
use Rattle.std.specs.Prelude.{ℕ, ◌+◌, ◌-◌, ◌&&◌, nat_le, if◌then◌else◌, List, map}

-- an ASCII letter in its other case: uppercase is 65 to 90, lowercase 97 to 122; other bytes are
-- unchanged
unfoldable pub other_case : ℕ → ℕ
other_case b =
    if nat_le 65 b && nat_le b 90 then b + 32
    else if nat_le 97 b && nat_le b 122 then b - 32
    else b

-- a text with the case of each byte exchanged
abbrev pub exchange_case : List ℕ → List ℕ
exchange_case text = map other_case text

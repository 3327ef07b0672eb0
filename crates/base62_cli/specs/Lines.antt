-- The lines of an input: its pieces between bytes 10. The piece after the last byte 10 is a line
-- only if it is nonempty.
use Rattle.std.specs.Prelude.{ℕ, ◌==◌, if◌then◌else◌, List, [], ◌∷◌}

-- a byte goes before the first line, or begins one if there is none
abbrev pub onto_first_line : ℕ → List (List ℕ) → List (List ℕ)
onto_first_line b [] = (b ∷ []) ∷ []
onto_first_line b (line ∷ lines) = (b ∷ line) ∷ lines

-- a byte 10 ends a line, and any other byte belongs to the first line of what follows it
unfoldable pub lines_of : List ℕ → List (List ℕ)
lines_of [] = []
lines_of (b ∷ bytes) = if b == 10 then [] ∷ lines_of bytes else onto_first_line b (lines_of bytes)

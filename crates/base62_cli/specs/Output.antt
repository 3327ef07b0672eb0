-- What the program writes for what it reads.
use Rattle.std.specs.Prelude.{◌≡◌, ℕ, List, [], ◌∷◌, ◌++◌}
use Rattle.base62_cli.specs.Lines.{lines_of}
use Rattle.base62_cli.specs.Reply.{IsReply}

-- a reply to each line, in order, each followed by byte 10
unfoldable pub AreReplies : List (List ℕ) → List ℕ → Type 0
AreReplies [] output = output ≡ []
AreReplies (line ∷ lines) output =
    (reply : List ℕ) × (others : List ℕ) × IsReply line reply × AreReplies lines others
    × (output ≡ reply ++ 10 ∷ others)

-- the output for an input: there is exactly one, by `one_output`
abbrev pub IsOutput : List ℕ → List ℕ → Type 0
IsOutput input output = AreReplies (lines_of input) output

-- the replies so far, and then an output for what is left, are an output for all
abbrev pub Leaves : List ℕ → List ℕ → List ℕ → Type 0
Leaves all replies left = (later : List ℕ) → IsOutput left later → IsOutput all (replies ++ later)

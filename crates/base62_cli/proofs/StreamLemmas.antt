-- What reads and writes do to known bytes, one after the other.
use Rattle.std.proofs.Common.{◌≡◌, List, [], ◌++◌, ℕ, Option, Some, None, append_assoc, append-nil, IfSome, refl, sym, subst, ap, ◌∙◌}
use Rattle.std.specs.Io.KnownBytes.{Appends, Consumes, IsAtEnd}
use Rattle.base62_cli.specs.Output.{IsOutput, Leaves}
use Rattle.base62_cli.proofs.LineLemmas.{leaves_then}
use Rattle.std.proofs.lemmas.Option.{none-some, same_Some}

-- two writes, one after the other
pub appends_both : (a b c : Option (List ℕ)) (xs ys : List ℕ) → Appends a b xs → Appends b c ys
    → Appends a c (xs ++ ys)
appends_both None b c xs ys p q = tt
appends_both (Some x) None c xs ys p q = absurd p
appends_both (Some x) (Some y) None xs ys p q = absurd q
appends_both (Some x) (Some y) (Some z) xs ys p q = q ∙ ap (λ w. w ++ ys) p ∙ append_assoc x xs ys

-- what a read leaves of known bytes
pub read_more : (old new : Option (List ℕ)) (left bytes : List ℕ) → old ≡ Some left
    → Consumes old new bytes → (after : List ℕ) × (new ≡ Some after) × (left ≡ bytes ++ after)
read_more None new left bytes e h = absurd (none-some left e)
read_more (Some known) None left bytes e h = absurd h
read_more (Some known) (Some after) left bytes e h = (after, refl, sym (same_Some known left e) ∙ h)

-- the bytes written so far leave what has come of the line and what the reader has left of the input
abbrev pub Progress : Option (List ℕ) → Option (List ℕ) → Option (List ℕ) → Option (List ℕ) → List ℕ → Type 0
Progress input reader before after line =
    IfSome input (λ bytes. (left : List ℕ) × (reader ≡ Some left) × (written : List ℕ) × Appends before after written × Leaves bytes written (line ++ left))

-- one read answered
pub progress_after_read : (input reader next before middle after : Option (List ℕ))
    (line rest chunk replies : List ℕ)
    → Progress input reader before middle line → Consumes reader next chunk
    → ((more : List ℕ) → Leaves (line ++ (chunk ++ more)) replies (rest ++ more))
    → Appends middle after replies → Progress input next before after rest
progress_after_read None reader next before middle after line rest chunk replies p read leaves wrote = tt
progress_after_read (Some bytes) reader next before middle after line rest chunk replies p read leaves wrote =
    let more = read_more reader next p.0 chunk p.1 read in
    let left : Leaves bytes p.2 (line ++ (chunk ++ more.0)) = subst (λ xs. Leaves bytes p.2 (line ++ xs)) more.2 p.4 in (
      more.0,
      more.1,
      p.2 ++ replies,
      appends_both before middle after p.2 replies p.3 wrote,
      leaves_then bytes p.2 (line ++ (chunk ++ more.0)) replies (rest ++ more.0) left (leaves more.0),
    )

-- a read that gave nothing, and the last line answered
pub output_at_end_of_input : (input reader next before middle after : Option (List ℕ)) (line output : List ℕ)
    → Progress input reader before middle line → Consumes reader next [] → IsAtEnd next
    → IsOutput line output → Appends middle after output
    → IfSome input
    (λ bytes. (next ≡ Some []) × (all : List ℕ) × IsOutput bytes all × Appends before after all)
output_at_end_of_input None reader next before middle after line output p read end last wrote = tt
output_at_end_of_input (Some bytes) reader next before middle after line output p read end last wrote =
    let more = read_more reader next p.0 [] p.1 read in
    let nothing : more.0 ≡ [] = rw more.1 at end in
    let whole : line ≡ line ++ p.0 = sym (append-nil line) ∙ ap (λ xs. line ++ xs) (sym (more.2 ∙ nothing)) in (
      more.1 ∙ ap (λ xs. Some xs) nothing,
      p.2 ++ output,
      p.4 output (subst (λ xs. IsOutput xs output) whole last),
      appends_both before middle after p.2 output p.3 wrote,
    )

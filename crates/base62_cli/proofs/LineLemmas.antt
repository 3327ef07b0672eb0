-- The lines of an input, as they end one after the other.
use Rattle.std.proofs.Common.{◌≡◌, ◌≢◌, ℕ, ◌+◌, ◌^◌, ◌<◌, ◌≤◌, Bool, not, eqb, List, [], ◌∷◌, ◌++◌, length, map, take, drop, refl, sym, ap, ◌∙◌, arith, append_assoc, w64}
use Rattle.std.specs.Int.Count.{count_trailing_zeros}
use Rattle.std.specs.List.{All, AllWithin, HoldsAt, prefix_len}
use Rattle.std.specs.Simd.Lanes.{mask_l}
use Rattle.std.proofs.lemmas.Bool.{ne_eqb, eqb-true, eqb-false}
use Rattle.std.proofs.lemmas.List.{get_or-take, take_more, take-append-drop, length-take-le}
use Rattle.std.proofs.lemmas.List.Elements.{All-head, All-tail}
use Rattle.std.proofs.lemmas.Nat.Bits.{bit_at-trailing_zeros}
use Rattle.std.proofs.lemmas.Simd.{length-chunk, trailing_mask_l, run_in_chunk_stops, run_in_chunk_fails}
use Rattle.base62_cli.specs.Lines.{lines_of, onto_first_line}
use Rattle.base62_cli.specs.Reply.{IsReply}
use Rattle.base62_cli.specs.Output.{AreReplies, IsOutput, Leaves}

-- a byte 10 ends the line before it
pub lines-ended : (line bytes : List ℕ) → All (λ b. b ≢ 10) line
    → lines_of (line ++ 10 ∷ bytes) ≡ line ∷ lines_of bytes
unfolding lines_of
lines-ended [] bytes unended = refl
lines-ended (b ∷ line) bytes unended =
    let other = ne_eqb b 10 (All-head (λ c. c ≢ 10) b line unended) in
    rw (other, lines-ended line bytes (All-tail (λ c. c ≢ 10) b line unended)) refl

-- an empty input has no line
pub lines-nil : lines_of [] ≡ []
unfolding lines_of
lines-nil = refl

-- what no byte 10 ends is one line
pub lines-open : (b : ℕ) (line : List ℕ) → All (λ c. c ≢ 10) (b ∷ line)
    → lines_of (b ∷ line) ≡ (b ∷ line) ∷ []
unfolding lines_of
lines-open b [] unended = rw (ne_eqb b 10 (All-head (λ c. c ≢ 10) b [] unended)) refl
lines-open b (c ∷ line) unended =
    let rest = lines-open c line (All-tail (λ d. d ≢ 10) b (c ∷ line) unended) in
    rw (ne_eqb b 10 (All-head (λ d. d ≢ 10) b (c ∷ line) unended)) (ap (onto_first_line b) rest)

-- in a mask of the first 64 bytes that are 10, the lowest set bit is the first line end
pub first_line_end : (bytes : List ℕ) (ends : ℕ) → 64 ≤ length bytes → ends < 2 ^ 64
    → ends ≡ mask_l (map (λ b. eqb b 10) (take 64 bytes)) → 0 < ends
    → let end = count_trailing_zeros 64 ends in (end < length bytes) × HoldsAt (λ b. b ≡ 10) bytes end × AllWithin (λ b. b ≢ 10) bytes 0 end
first_line_end bytes ends room fits mask some =
    let is_end : ℕ → Bool = λ b. eqb b 10 in
    let block = take 64 bytes in
    let end = count_trailing_zeros 64 ends in
    let lanes : length block ≡ 64 = length-chunk 0 64 bytes room in
    let counted : end ≡ prefix_len (λ b. not (is_end b)) block = ap (count_trailing_zeros 64) mask ∙ trailing_mask_l is_end 64 block (omega arith) (rw mask at some) in
    let below : end < 64 = (bit_at-trailing_zeros w64 ends some fits).0 in
    let start : 0 + end ≡ end = omega arith in (
      omega arith,
      λ d. eqb-true _ 10 (rw start at (run_in_chunk_stops is_end bytes 0 64 end d room counted below)),
      λ k d low high. eqb-false _ 10 (run_in_chunk_fails is_end bytes 0 64 end d room counted k low (omega arith)),
    )

-- a byte 10 at the first line end, and what stands before and after it
pub cut_at_end : (bytes : List ℕ) (end : ℕ) → end < length bytes → HoldsAt (λ b. b ≡ 10) bytes end
    → AllWithin (λ b. b ≢ 10) bytes 0 end
    → All (λ b. b ≢ 10) (take end bytes) × (bytes ≡ take end bytes ++ 10 ∷ drop (end + 1) bytes)
cut_at_end bytes end within at before = (
  λ k d below. let front : k < end = omega (arith, length-take-le end bytes) in rw (get_or-take end bytes k d front) (before k d (omega arith) front),
  sym (take-append-drop (end + 1) bytes) ∙ ap (λ front. front ++ drop (end + 1) bytes) (take_more bytes end 0 within ∙ ap (λ b. take end bytes ++ b ∷ []) (at 0))
      ∙ append_assoc (take end bytes) (10 ∷ []) (drop (end + 1) bytes),
)

-- one reply more
pub leaves_after_line : (all replies line bytes reply rest : List ℕ)
    → All (λ b. b ≢ 10) line → IsReply line reply → bytes ≡ line ++ 10 ∷ rest
    → Leaves all replies bytes → Leaves all (replies ++ (reply ++ 10 ∷ [])) rest
unfolding AreReplies
leaves_after_line all replies line bytes reply rest unended is split leaves later h =
    let lines : lines_of bytes ≡ line ∷ lines_of rest = ap lines_of split ∙ lines-ended line rest unended in
    let one : IsOutput bytes (reply ++ 10 ∷ later) = rw lines (reply, later, is, h, refl) in
    let group : replies ++ (reply ++ 10 ∷ []) ++ later ≡ replies ++ (reply ++ 10 ∷ later) =
    append_assoc replies (reply ++ 10 ∷ []) later ∙ ap (λ xs. replies ++ xs) (append_assoc reply (10 ∷ []) later) in
    rw group (leaves (reply ++ 10 ∷ later) one)

-- replies, and then others for what they left
pub leaves_then : (all replies left others rest : List ℕ) → Leaves all replies left
    → Leaves left others rest → Leaves all (replies ++ others) rest
leaves_then all replies left others rest p q later h = rw append_assoc (p (others ++ later) (q later h))

-- an empty input has an empty output
pub output-nil : IsOutput [] []
unfolding AreReplies lines_of
output-nil = refl

-- the output for a last line
pub output-last : (line reply : List ℕ) → 0 < length line → All (λ b. b ≢ 10) line
    → IsReply line reply → IsOutput line (reply ++ 10 ∷ [])
unfolding AreReplies
output-last [] reply some unended is = absurd (omega arith)
output-last (b ∷ line) reply some unended is = rw (lines-open b line unended) (reply, [], is, refl, refl)

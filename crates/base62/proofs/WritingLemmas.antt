-- Writing a text of a fixed number of letters: one or two at once, and one part after another.
use Rattle.std.proofs.Common.{◌≡◌, ℕ, zero, suc, ◌+◌, ◌-◌, ◌*◌, ◌/◌, ◌%◌, ◌^◌, ◌<◌, ◌≤◌, List, [], ◌∷◌, ◌++◌}
use Rattle.std.proofs.Common.{length, get_or, set, take, drop, refl, sym, ap, ◌∙◌, arith, append_assoc}
use Rattle.std.proofs.lemmas.List.{append-nil, take_all, drop_all, drop-drop, length-take-le, length-drop, length-append, take_at, drop_at}
use borrow.Rule.Slice.PartMut.{put_mid, mid_of, post_of}
use Rattle.base62.specs.Fixed.{fixed, WritesFixed}
use Rattle.base62.proofs.PowerLemmas.{remainder_is}
use Rattle.base62.proofs.FixedLemmas.{length-fixed, fixed-join}

-- the places from v on, and a buffer with those written
abbrev pub places_from : ℕ → List ℕ → List ℕ
places_from v old = mid_of v (length old - v) old

abbrev pub put_from : ℕ → List ℕ → List ℕ → List ℕ
put_from v old part = put_mid v (length old - v) old part

module _ (B : List ℕ) (v w m : ℕ) (old part : List ℕ) (room : v + w ≤ length old) (writes : WritesFixed B w m (places_from v old) part) where
  part_written : put_from v old part ≡ take v old ++ (fixed B w m ++ drop (v + w) old)
  part_written =
      let behind : length (drop v old) ≤ length old - v = omega (arith, length-drop v old) in
      let places : places_from v old ≡ drop v old = take_all (length old - v) (drop v old) behind in
      let none : post_of v (length old - v) old ≡ [] = drop_all (length old - v) (drop v old) behind in
      rw (none, append-nil, writes, places, drop-drop w v old) refl

-- what is written at the front
module _ (B : List ℕ) (v n : ℕ) (old new : List ℕ) (writes : WritesFixed B v n old new) where
  -- stands there
  pub written_front : take v new ≡ fixed B v n
  written_front = ap (take v) writes ∙ take_at (fixed B v n) (drop v old) v (length-fixed B v n)

  -- and nothing after it changes
  pub written_others : drop v new ≡ drop v old
  written_others = ap (drop v) writes ∙ drop_at (fixed B v n) (drop v old) v (length-fixed B v n)

  pub written_length : v ≤ length old → length new ≡ length old
  written_length room = ap length writes ∙ length-append (fixed B v n) (drop v old) ∙ omega (arith, room, length-fixed B v n, length-drop v old)

-- a text of t letters is written in two parts, of v and of w letters, from the quotient q and the remainder m
module _ (B : List ℕ) (v w t n q m : ℕ) (both : v + w ≡ t) (quotient : q ≡ n / 62 ^ w) (remainder : m ≡ n % 62 ^ w) where
  joined : (old : List ℕ)
      → fixed B v q ++ (fixed B w m ++ drop (v + w) old) ≡ fixed B t n ++ drop t old
  joined old =
      rw (quotient, remainder, ← both, fixed-join B v w n)
      (sym (append_assoc (fixed B v (n / 62 ^ w)) (fixed B w (n % 62 ^ w)) (drop (v + w) old)))

  module _ (old mid part : List ℕ) (room : t ≤ length old) (back : WritesFixed B w m (places_from v mid) part) where
    -- the front first, of which the back may write over what it has beyond v letters
    pub front_first : length mid ≡ length old → take v mid ≡ fixed B v q → drop t mid ≡ drop t old
        → WritesFixed B t n old (put_from v mid part)
    front_first same front others =
        let behind : drop (v + w) mid ≡ drop (v + w) old = rw both others in
        part_written B v w m mid part (omega (arith, room, both, same)) back ∙ rw (front, behind) (joined old)

    pub written_on : WritesFixed B v q old mid → WritesFixed B t n old (put_from v mid part)
    written_on front =
        let same = written_length B v q old mid front (omega (arith, room, both)) in
        let behind = sym (drop-drop w v mid) ∙ ap (drop w) (written_others B v q old mid front) ∙ drop-drop w v old in
        let others : drop t mid ≡ drop t old = rw (← both) behind in
        front_first same (written_front B v q old mid front) others

  -- the back first
  pub back_on : (old part new : List ℕ) → t ≤ length old
      → WritesFixed B w m (places_from v old) part
      → WritesFixed B v q (put_from v old part) new → WritesFixed B t n old new
  back_on old part new room back front =
      let size : length (take v old) ≡ v = length-take-le v old (omega (arith, room, both)) in
      let written = part_written B v w m old part (omega (arith, room, both)) back in
      let behind : drop v (put_from v old part) ≡ fixed B w m ++ drop (v + w) old = ap (drop v) written ∙ drop_at (take v old) _ v size in
      front ∙ rw behind (joined old)

-- the same, if the code cuts n by 62^w
pub back_first : (B : List ℕ) (v w t n : ℕ) → v + w ≡ t → (old part new : List ℕ) → t ≤ length old
    → WritesFixed B w (n - n / 62 ^ w * 62 ^ w) (places_from v old) part
    → WritesFixed B v (n / 62 ^ w) (put_from v old part) new → WritesFixed B t n old new
back_first B v w t n both = back_on B v w t n (n / 62 ^ w) _ both refl (remainder_is n (62 ^ w))

-- a letter
pub letter_written : (B old : List ℕ) (x letter : ℕ) → 1 ≤ length old → x < 62
    → letter ≡ get_or B x 0 → WritesFixed B 1 x old (set old 0 letter)
unfolding fixed
letter_written B [] x letter room small is = absurd (omega arith)
letter_written B (_ ∷ old) x letter room small is = let same : x % 62 ≡ x = omega arith in rw (is, same) refl

-- a letter that is written over, if no place is left for it
pub letter_front : (B old : List ℕ) (v x letter : ℕ) → 1 ≤ length old → v ≤ 1 → x < 62
    → letter ≡ get_or B x 0 → take v (set old 0 letter) ≡ fixed B v x
unfolding fixed
letter_front B old zero x letter room few small is = refl
letter_front B old (suc zero) x letter room few small is =
    written_front B 1 x old (set old 0 letter) (letter_written B old x letter room small is)
letter_front B old (suc (suc v)) x letter room few small is = absurd (omega arith)

-- two letters
pub pair_written : (B old : List ℕ) (x first second : ℕ) → 2 ≤ length old → x < 62 ^ 2
    → first ≡ get_or B (x / 62) 0 → second ≡ get_or B (x % 62) 0
    → WritesFixed B 2 x old (set (set old 0 first) 1 second)
unfolding fixed
pair_written B [] x first second room small one two = absurd (omega arith)
pair_written B (_ ∷ []) x first second room small one two = absurd (omega arith)
pair_written B (_ ∷ _ ∷ old) x first second room small one two = let same : x / 62 % 62 ≡ x / 62 = omega arith in rw (one, two, same) refl

-- two letters, of which the second overwrites the first if there is only one place
pub ends_written : (B old : List ℕ) (count x first second : ℕ) → 1 ≤ count → count ≤ 2
    → count ≤ length old → x < 62 ^ count
    → first ≡ get_or B (x / 62) 0 → second ≡ get_or B (x % 62) 0
    → WritesFixed B count x old (set (set old 0 first) (count - 1) second)
unfolding fixed
ends_written B old zero x first second some few room small one two = absurd (omega arith)
ends_written B [] (suc zero) x first second some few room small one two = absurd (omega arith)
ends_written B (_ ∷ old) (suc zero) x first second some few room small one two = rw two refl
ends_written B old (suc (suc zero)) x first second some few room small one two = pair_written B old x first second room small one two
ends_written B old (suc (suc (suc count))) x first second some few room small one two = absurd (omega arith)

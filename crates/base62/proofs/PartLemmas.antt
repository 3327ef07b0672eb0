-- Reading a part of a text: one byte, and one part after another.
use Rattle.std.proofs.Common.{◌≡◌, ℕ, ◌+◌, ◌*◌, ◌^◌, ◌<◌, ◌≤◌, true, List, [], ◌∷◌, ◌++◌, length, get_or, take, drop, Result, Ok, Err, refl, sym, ap, ◌∙◌, subst, arith, add_assoc}
use Rattle.std.specs.List.{prefix_len}
use Rattle.std.proofs.Math.Nat.{pow-le-pow_right, mul-le-mul}
use Rattle.std.proofs.lemmas.Bool.{eq-eqb, ne_eqb}
use Rattle.std.proofs.lemmas.List.{take-append-drop, take_all, take_more, length-append, length-take-le, length-drop, get_or_append_left, get_or-append-add}
use Rattle.std.proofs.lemmas.List.Elements.{All-nil, All-cons, All-append}
use Rattle.std.proofs.lemmas.List.Folds.{prefix_len-append}
use Rattle.std.proofs.lemmas.List.Sums.{prefix_len_is}
use Rattle.std.proofs.lemmas.Nat.{pow-add}
use Rattle.base62.specs.declared.fault.DecodeError.{DecodeError}
use Rattle.base62.specs.declared.fault.DecodeError.TheVariants.{InvalidBase62Byte}
use Rattle.base62.specs.Alphabet.{IsAlphabet, AreLetters, is_letter}
use Rattle.base62.specs.Tables.{digit_or_255}
use Rattle.base62.specs.Parts.{HasRead, HasRefused, ReadsPart, ReadsOn, after_number}
use Rattle.base62.proofs.ValueLemmas.{value-nil, value-one, value-append, value-lt_most}
use Rattle.base62.proofs.TableLemmas.{digit-letter, digit-value, digit-no_letter}

-- in a text of letters no byte is bad
pub prefix_len-letters : (B text : List ℕ) → AreLetters B text
    → prefix_len (is_letter B) text ≡ length text
prefix_len-letters B text letters =
    prefix_len_is (is_letter B) text (length text) 0 (omega arith) (λ k h. letters k 0 h) (λ h. absurd (omega arith))

-- what was read of at most k bytes is below 62^k
pub read_below : (B part : List ℕ) (old new number k : ℕ) → IsAlphabet B
    → HasRead B part old new number → length part ≤ k → number < 62 ^ k
read_below B part old new number k ok read short = rw read.value_is (value-lt_most B ok part k short)

-- a byte by its digit in the tables
pub read_one : (B : List ℕ) (b old new : ℕ) → digit_or_255 B b ≤ 61 → new ≡ old + 1
    → HasRead B (b ∷ []) old new (digit_or_255 B b)
read_one B b old new low step = record {
  letters = let P : ℕ → Type 0 = λ x. is_letter B x ≡ true in All-cons P b [] (digit-letter B b low) (All-nil P);
  value_is = digit-value B b low ∙ sym (value-one B b);
  steps = step;
}

pub refused_one : (B : List ℕ) → IsAlphabet B → (b start old new : ℕ) → 61 < digit_or_255 B b
    → new ≡ old + 1 → HasRefused B (b ∷ []) start old new (InvalidBase62Byte b start)
refused_one B ok b start old new high step =
    let first : prefix_len (is_letter B) (b ∷ []) ≡ 0 = prefix_len_is (is_letter B) (b ∷ []) 0 0 (omega arith) (λ k h. absurd (omega arith)) (λ _. digit-no_letter B ok b high) in
    record {
      within = rw first (omega arith);
      names = rw first (ap (InvalidBase62Byte b) (omega arith));
      steps = rw first (omega arith);
    }

-- a part is read by reading its front and then the bytes after that
reads_on : (B a b : List ℕ) (start old mid new number : ℕ) (r : Result ℕ DecodeError)
    → HasRead B a old mid number
    → ReadsPart B b (start + length a) mid new r
    → ReadsPart B (a ++ b) start old new (after_number number (length b) r)
reads_on B a b start old mid new number (Ok m) front back = record {
  letters = All-append (λ x. is_letter B x ≡ true) a b front.letters back.letters;
  value_is = rw (value-append B a b, front.value_is, back.value_is) refl;
  steps = omega (arith, front.steps, back.steps, length-append a b);
}
reads_on B a b start old mid new number (Err fault) front back =
    let i = prefix_len (is_letter B) b in
    let all = prefix_len-letters B a front.letters in
    let place : prefix_len (is_letter B) (a ++ b) ≡ length a + i =
    prefix_len-append (is_letter B) a b ∙ rw (eq-eqb (prefix_len (is_letter B) a) (length a) all) refl in
    let byte : get_or (a ++ b) (length a + i) 0 ≡ get_or b i 0 = get_or-append-add a b i 0 in
    record {
      within = rw place (omega (arith, length-append a b, back.within));
      names = back.names ∙ rw (place, byte, add_assoc start (length a) i) refl;
      steps = rw place (omega (arith, front.steps, back.steps));
    }

-- bytes after the first that is not a letter are not read
refuses_before : (B a b : List ℕ) (start old new : ℕ) (fault : DecodeError)
    → HasRefused B a start old new fault → HasRefused B (a ++ b) start old new fault
refuses_before B a b start old new fault front =
    let i = prefix_len (is_letter B) a in
    let place : prefix_len (is_letter B) (a ++ b) ≡ i =
    prefix_len-append (is_letter B) a b ∙ rw (ne_eqb i (length a) (λ e. omega (arith, front.within, e))) refl in
    let byte : get_or (a ++ b) i 0 ≡ get_or a i 0 = get_or_append_left a b 0 i front.within in
    record {
      within = rw place (omega (arith, length-append a b, front.within));
      names = front.names ∙ rw (place, byte) refl;
      steps = rw place front.steps;
    }

-- nothing is read
pub read_none : (B part : List ℕ) (old : ℕ) → HasRead B (take 0 part) old old 0
read_none B part old = record { letters = All-nil (λ x. is_letter B x ≡ true); value_is = sym (value-nil B); steps = omega arith }

-- one byte more of a part
pub reads_more : (B part : List ℕ) (k start old mid new number : ℕ) (r : Result ℕ DecodeError)
    → k < length part → HasRead B (take k part) old mid number
    → ReadsPart B (get_or part k 0 ∷ []) (start + k) mid new r
    → ReadsPart B (take (k + 1) part) start old new (after_number number 1 r)
reads_more B part k start old mid new number r inside front back =
    let size : length (take k part) ≡ k = length-take-le k part (omega arith) in
    let one = reads_on B (take k part) (get_or part k 0 ∷ []) start old mid new number r front (rw size back) in
    rw (take_more part k 0 inside) one

-- a part that is cut after k bytes
module _ (B part a : List ℕ) (k start old : ℕ) (front : a ≡ take k part) where
  pub refuses_cut : (new : ℕ) (fault : DecodeError) → HasRefused B a start old new fault
      → HasRefused B part start old new fault
  refuses_cut new fault refused =
      subst (λ xs. HasRefused B xs start old new fault) (ap (λ xs. xs ++ drop k part) front ∙ take-append-drop k part) (refuses_before B a (drop k part) start old new fault refused)

  -- n bytes are after the cut
  pub reads_cut : (b : List ℕ) (mid new number n : ℕ) (r : Result ℕ DecodeError) → b ≡ drop k part
      → k + n ≡ length part → HasRead B a old mid number
      → ReadsPart B b (start + k) mid new r
      → ReadsPart B part start old new (after_number number n r)
  reads_cut b mid new number n r back size read later =
      let first : length a ≡ k = ap length front ∙ length-take-le k part (omega arith) in
      let second : length b ≡ n = ap length back ∙ length-drop k part ∙ omega arith in
      let whole : a ++ b ≡ part = rw (front, back) (take-append-drop k part) in
      let both = reads_on B a b start old mid new number r read (rw first later) in
      subst (λ xs. ReadsPart B xs start old new (after_number number n r)) whole (rw second at both)

  -- what is after the cut is read after the number
  pub reads_on_cut : (b : List ℕ) (mid new number : ℕ) (r : Result ℕ DecodeError) → b ≡ drop k part
      → k + length b ≡ length part → HasRead B a old mid number
      → ReadsOn B number b (start + k) mid new r → ReadsPart B part start old new r
  reads_on_cut b mid new number r back size read later = rw later.2 (reads_cut b mid new number (length b) later.0 back size read later.1)

-- a part that is read after nothing
alone_is : (n : ℕ) (alone : Result ℕ DecodeError) → after_number 0 n alone ≡ alone
alone_is n (Ok m) = ap Ok (omega arith)
alone_is n (Err fault) = refl

pub reads_alone : (B part : List ℕ) (start old new : ℕ) (r : Result ℕ DecodeError)
    → ReadsOn B 0 part start old new r → ReadsPart B part start old new r
reads_alone B part start old new r on = rw (on.2, alone_is (length part) on.0) on.1

-- a number below 62^5 and at most five letters after it
pub on_below : (number m i k : ℕ) → number < 62 ^ 5 → m < 62 ^ i → i ≤ k
    → number * 62 ^ i + m < 62 ^ 5 * 62 ^ k
on_below number m i k small less few =
    let power : 62 ^ i ≤ 62 ^ k = pow-le-pow_right {n = 62} (omega arith) few in
    let front : (number + 1) * 62 ^ i ≤ 62 ^ 5 * 62 ^ k = mul-le-mul {n₁ = number + 1} {m₁ = 62 ^ i} {n₂ = 62 ^ 5} {m₂ = 62 ^ k} (omega arith) power in
    omega (arith, front, less)

-- one letter more
pub on_more : (number total m i d : ℕ) → total ≡ number * 62 ^ i + m
    → total * 62 + d ≡ number * 62 ^ (i + 1) + (m * 62 ^ 1 + d)
on_more number total m i d is = omega (arith, is, pow-add 62 i 1, ap (λ x. number * x) (pow-add 62 i 1))

-- a part of five bytes, read byte by byte
module _ (B part : List ℕ) (start old : ℕ) (five : length part ≡ 5) where
  abbrev read_at : ℕ → ℕ → ℕ → Result ℕ DecodeError → Type 0
  read_at i old new r = ReadsPart B (get_or part i 0 ∷ []) (start + i) old new r

  module _ (s1 s2 s3 a b c : ℕ) (one : read_at 0 old s1 (Ok a)) (two : read_at 1 s1 s2 (Ok b)) (three : read_at 2 s2 s3 (Ok c)) where
    three_read : HasRead B (take 3 part) old s3 (a * 62 ^ 2 + b * 62 + c)
    three_read =
        let first = reads_more B part 0 start old old s1 0 (Ok a) (omega arith) (read_none B part old) one in
        let second = reads_more B part 1 start old s1 s2 _ (Ok b) (omega arith) first two in
        let third = reads_more B part 2 start old s2 s3 _ (Ok c) (omega arith) second three in
        record { letters = third.letters; value_is = omega (arith, third.value_is); steps = third.steps }

    pub fourth_refused : (s4 : ℕ) (fault : DecodeError) → read_at 3 s3 s4 (Err fault)
        → HasRefused B part start old s4 fault
    fourth_refused s4 fault bad =
        refuses_cut B part (take 4 part) 4 start old refl s4 fault (reads_more B part 3 start old s3 s4 _ (Err fault) (omega arith) three_read bad)

    module _ (s4 d : ℕ) (four : read_at 3 s3 s4 (Ok d)) where
      four_read : HasRead B (take 4 part) old s4 ((a * 62 ^ 2 + b * 62 + c) * 62 ^ 1 + d)
      four_read = reads_more B part 3 start old s3 s4 _ (Ok d) (omega arith) three_read four

      pub fifth_refused : (s5 : ℕ) (fault : DecodeError) → read_at 4 s4 s5 (Err fault)
          → HasRefused B part start old s5 fault
      fifth_refused s5 fault bad =
          refuses_cut B part (take 5 part) 5 start old refl s5 fault (reads_more B part 4 start old s4 s5 _ (Err fault) (omega arith) four_read bad)

      pub five_read : (s5 e : ℕ) → read_at 4 s4 s5 (Ok e)
          → HasRead B part old s5 (a * 62 ^ 4 + b * 62 ^ 3 + c * 62 ^ 2 + d * 62 + e)
      five_read s5 e last =
          let whole : take 5 part ≡ part = take_all 5 part (omega (arith, five)) in
          let read = rw whole at (reads_more B part 4 start old s4 s5 _ (Ok e) (omega arith) four_read last) in
          record { letters = read.letters; value_is = omega (arith, read.value_is); steps = read.steps }

-- The results and the steps of decoding, by what is read of the bytes after the leading zeros.
use Rattle.std.proofs.Common.{◌≡◌, ◌+◌, ◌-◌, ◌*◌, ◌^◌, ◌<◌, ◌≤◌, ◌∙◌}
use Rattle.std.proofs.Common.{ℕ, Option, Some, None, Bool, true, false, eqb, ltb, leb, List, length, get_or, take, drop, Result, Ok, Err, if◌then◌else◌, refl, sym, ap, arith, inl, inr}
use Rattle.std.specs.List.{prefix_len, list_all}
use Rattle.std.proofs.Math.Nat.{pow-le-pow_right, mul-le-mul}
use Rattle.std.proofs.lemmas.Bool.{cases_lt, ne_eqb, lt-ltb, le-ltb, lt-leb, le-leb, false≢true, eq-eqb, cases_eq}
use Rattle.std.proofs.lemmas.List.{take-append-drop, length-take-le, length-drop, get_or-drop}
use Rattle.std.proofs.lemmas.List.Sums.{AllPass-from_list_all, list_all-from_AllPass}
use Rattle.std.proofs.lemmas.List.Folds.{prefix_len-append}
use Rattle.std.proofs.lemmas.List.Elements.{All-take}
use Rattle.std.specs.Option.{ok_or, SomeIff}
use Rattle.std.proofs.lemmas.Nat.{pow-add}
use Rattle.base62.specs.declared.fault.DecodeError.{DecodeError}
use Rattle.base62.specs.declared.fault.DecodeError.TheVariants.{ArithmeticOverflow, EmptyInput, InvalidBase62Byte}
use Rattle.base62.specs.Alphabet.{IsAlphabet, is_letter}
use Rattle.base62.specs.Value.{value}
use Rattle.base62.specs.Decoding.{decoding, leading_zeros, after_zeros, first_ten, shows_overflow, invalid_index, first_invalid}
use Rattle.base62.specs.Steps.{decoding_steps, DecodesCounted}
use Rattle.base62.specs.Parts.{HasRead, HasRefused, ReadsPart, after_number}
use Rattle.base62.specs.Laws.{number_or_overflow}
use Rattle.base62.proofs.ZeroLemmas.{zeros_within, value-after_zeros, zeros_letters}
use Rattle.base62.proofs.PartLemmas.{prefix_len-letters, read_below, refuses_cut, reads_cut}

-- the first bad byte of the text is among the bytes after the leading zeros
invalid_index-after_zeros : (B text : List ℕ) → IsAlphabet B
    → invalid_index B text ≡ leading_zeros B text + invalid_index B (after_zeros B text)
invalid_index-after_zeros B text ok =
    let z = leading_zeros B text in
    let front = prefix_len-letters B (take z text) (zeros_letters B ok text) in
    let size = length-take-le z text (zeros_within B text) in
    ap (prefix_len (is_letter B)) (sym (take-append-drop z text)) ∙ prefix_len-append (is_letter B) (take z text) (after_zeros B text) ∙ rw
    (eq-eqb (prefix_len (is_letter B) (take z text)) (length (take z text)) front, size) refl

first_invalid-after_zeros : (B text : List ℕ) → IsAlphabet B
    → first_invalid B text
    ≡ InvalidBase62Byte (get_or (after_zeros B text) (invalid_index B (after_zeros B text)) 0)
    (leading_zeros B text + invalid_index B (after_zeros B text))
first_invalid-after_zeros B text ok =
    let z = leading_zeros B text in
    let i = invalid_index B (after_zeros B text) in
    let place = invalid_index-after_zeros B text ok in
    let byte : get_or (after_zeros B text) i 0 ≡ get_or text (z + i) 0 = get_or-drop z text i 0 in
    rw (place, byte) refl

-- a text that is read up to a bad byte has not only letters
not_all : (B part : List ℕ) (start old new : ℕ) (fault : DecodeError) (b : Bool)
    → HasRefused B part start old new fault → list_all (is_letter B) part ≡ b → b ≡ false
not_all B part start old new fault false refused e = refl
not_all B part start old new fault true refused e =
    let all = prefix_len-letters B part (AllPass-from_list_all (is_letter B) part e) in absurd (omega (arith, refused.within, all))

not_empty : (text : List ℕ) → 0 < length text → eqb (length text) 0 ≡ false
not_empty text h = ne_eqb (length text) 0 (λ e. omega arith)

pub decodes_empty : (B text : List ℕ) (old : ℕ) → length text ≡ 0
    → DecodesCounted B text old old (Err EmptyInput)
unfolding decoding decoding_steps
decodes_empty B text old h = record { answer = rw h refl; steps = rw h (omega arith); most = omega arith }

pub decodes_long : (B text : List ℕ) (old : ℕ) → 0 < length text → 22 < length (after_zeros B text)
    → DecodesCounted B text old old (Err ArithmeticOverflow)
unfolding decoding decoding_steps
decodes_long B text old some long =
    let above = lt-ltb 22 (length (after_zeros B text)) long in
    record { answer = rw (not_empty text some, above) refl; steps = rw (not_empty text some, above) (omega arith); most = omega arith }

-- a number, or an overflow if it is 2^128 or more; an error is unchanged
abbrev pub or_overflow : Result ℕ DecodeError → Result ℕ DecodeError
or_overflow (Ok number) = number_or_overflow number
or_overflow (Err fault) = Err fault

module _ (B text : List ℕ) (ok : IsAlphabet B) (some : 0 < length text) (short : length (after_zeros B text) ≤ 22) (old new : ℕ) where
  not_above : ltb 22 (length (after_zeros B text)) ≡ false
  not_above = le-ltb 22 (length (after_zeros B text)) short

  -- a bad byte, if the first ten, where they are letters, show no overflow
  refused_answer : (fault : DecodeError) (first : Bool)
      → HasRefused B (after_zeros B text) (leading_zeros B text) old new fault
      → list_all (is_letter B) (first_ten B text) ≡ first
      → (first ≡ true → shows_overflow B text ≡ false) → DecodesCounted B text old new (Err fault)
  unfolding decoding decoding_steps
  refused_answer fault true refused test fits =
      let all = not_all B (after_zeros B text) (leading_zeros B text) old new fault _ refused refl in
      let names : fault ≡ first_invalid B text = refused.names ∙ sym (first_invalid-after_zeros B text ok) in
      let place = invalid_index-after_zeros B text ok in record {
        answer = rw (not_empty text some, not_above, test, fits refl, all) (ap Err names);
        steps = rw (not_empty text some, not_above, test, fits refl, all) (omega (arith, refused.steps, place));
        most = omega (arith, refused.steps, refused.within);
      }
  refused_answer fault false refused test fits =
      let names : fault ≡ first_invalid B text = refused.names ∙ sym (first_invalid-after_zeros B text ok) in
      let place = invalid_index-after_zeros B text ok in record {
        answer = rw (not_empty text some, not_above, test) (ap Err names);
        steps = rw (not_empty text some, not_above, test) (omega (arith, refused.steps, place));
        most = omega (arith, refused.steps, refused.within);
      }

  -- a bad byte among the first ten
  first_refused_answer : (fault : DecodeError)
      → HasRefused B (first_ten B text) (leading_zeros B text) old new fault
      → DecodesCounted B text old new (Err fault)
  first_refused_answer fault refused =
      let z = leading_zeros B text in
      refused_answer fault _ (refuses_cut B (after_zeros B text) (first_ten B text) 10 z old refl new fault refused) refl
      (λ e. absurd (false≢true (sym (not_all B (first_ten B text) z old new fault _ refused refl) ∙ e)))

  -- only letters, of which the first ten show no overflow
  read_answer : (number : ℕ) → shows_overflow B text ≡ false
      → HasRead B (after_zeros B text) old new number → (over : Bool)
      → leb (2 ^ 128) (value B (after_zeros B text)) ≡ over
      → DecodesCounted B text old new (if over then Err ArithmeticOverflow else Ok number)
  unfolding decoding decoding_steps
  read_answer number fits read over test =
      let all = list_all-from_AllPass (is_letter B) (after_zeros B text) read.letters in
      let first = list_all-from_AllPass (is_letter B) (first_ten B text) (All-take (λ b. is_letter B b ≡ true) 10 (after_zeros B text) read.letters) in
      let same : number ≡ value B text = read.value_is ∙ sym (value-after_zeros B ok text) in record {
        answer = rw (not_empty text some, not_above, first, fits, all, test, same) refl;
        steps = rw (not_empty text some, not_above, first, fits, all) read.steps;
        most = omega (arith, read.steps);
      }

  -- what was read of the bytes after the leading zeros, of which the first ten show no overflow
  after_zeros_answer : (r : Result ℕ DecodeError) → shows_overflow B text ≡ false
      → ReadsPart B (after_zeros B text) (leading_zeros B text) old new r
      → DecodesCounted B text old new (or_overflow r)
  after_zeros_answer (Err fault) fits refused = refused_answer fault _ refused refl (λ _. fits)
  after_zeros_answer (Ok number) fits read = elim (cases_lt number (2 ^ 128)) [
    | inl less ↦ rw (lt-ltb number (2 ^ 128) less) (read_answer number fits read false (lt-leb _ _ (rw read.value_is at less)))
    | inr more ↦ rw (le-ltb number (2 ^ 128) more) (read_answer number fits read true (le-leb _ _ (rw read.value_is at more)))
  ]

  -- fewer than 22 bytes show no overflow
  none_shown : length (after_zeros B text) < 22 → shows_overflow B text ≡ false
  none_shown less = rw (ne_eqb (length (after_zeros B text)) 22 (λ e. omega arith)) refl

  -- at most 21 bytes after the leading zeros never overflow
  pub decodes_few : (r : Result ℕ DecodeError) → length (after_zeros B text) ≤ 21
      → ReadsPart B (after_zeros B text) (leading_zeros B text) old new r
      → DecodesCounted B text old new r
  decodes_few (Err fault) less refused = after_zeros_answer (Err fault) (none_shown (omega arith)) refused
  decodes_few (Ok number) less read =
      let below = read_below B (after_zeros B text) old new number 21 ok read less in
      let small : ltb number (2 ^ 128) ≡ true = lt-ltb number (2 ^ 128) (omega arith) in
      rw small at (after_zeros_answer (Ok number) (none_shown (omega arith)) read)

-- a text is cut after its leading zeros, and after ten bytes more
pub record IsCut (B text first later : List ℕ) (zeros : ℕ) : Type 0 where
  pub zeros_are : zeros ≡ leading_zeros B text
  pub first_is : first ≡ first_ten B text
  pub later_is : later ≡ drop 10 (after_zeros B text)
  pub size : 10 + length later ≡ length (after_zeros B text)
  pub short : length (after_zeros B text) ≤ 22
  pub some : 0 < length text

pub cut_at : {B text after first later : List ℕ} {zeros : ℕ} → zeros ≡ leading_zeros B text
    → after ≡ drop zeros text → first ≡ take 10 after → later ≡ drop 10 after
    → 10 < length after → length after ≤ 22 → IsCut B text first later zeros
cut_at {B = B} {text = text} {after = after} {zeros = zeros} zeros_are behind front back long short =
    let after_is : after ≡ after_zeros B text = rw zeros_are at behind in
    let left : length after ≡ length text - zeros = ap length behind ∙ length-drop zeros text in
    record {
      zeros_are = zeros_are;
      first_is = rw after_is at front;
      later_is = rw after_is at back;
      size = rw (← after_is) (omega (arith, ap length back, length-drop 10 after));
      short = rw (← after_is) short;
      some = omega (arith, long, left);
    }

module _ {B text first later : List ℕ} {zeros old : ℕ} (ok : IsAlphabet B) (cut : IsCut B text first later zeros) where
  -- a bad byte is among the first ten
  pub decodes_first_refused : {mid : ℕ} {fault : DecodeError}
      → HasRefused B first zeros old mid fault → DecodesCounted B text old mid (Err fault)
  decodes_first_refused {mid = mid} {fault = fault} refused = first_refused_answer B text ok cut.some cut.short old mid fault (rw (cut.first_is, cut.zeros_are) at refused)

  -- they are read
  module _ {mid number : ℕ} (read : HasRead B first old mid number) where
    ten : length first ≡ 10
    ten = ap length cut.first_is ∙ length-take-le 10 (after_zeros B text) (omega (arith, cut.size))

    value_is : number ≡ value B (first_ten B text)
    value_is = read.value_is ∙ ap (value B) cut.first_is

    -- their weighted number reaches 2^128 only where 22 bytes are left
    weighed_full : 2 ^ 128 ≤ number * 62 ^ length later → length later ≡ 12
    weighed_full big = elim (cases_lt (length later) 12) [
      | inl less ↦
          let below = read_below B first old mid number 10 ok read (omega (arith, ten)) in
          let weight : 62 ^ length later ≤ 62 ^ 11 = pow-le-pow_right {n = 62} (omega arith) {i = length later} {j = 11} (omega arith) in
          let product : number * 62 ^ length later ≤ 62 ^ 10 * 62 ^ 11 = mul-le-mul {n₁ = number} {m₁ = 62 ^ length later} {n₂ = 62 ^ 10} {m₂ = 62 ^ 11} (omega arith) weight in
          absurd (omega arith)
      | inr more ↦ omega (arith, cut.size, cut.short)
    ]

    -- it does so exactly where they show an overflow
    weighed_overflows : 2 ^ 128 ≤ number * 62 ^ length later → shows_overflow B text ≡ true
    weighed_overflows big =
        let twelve = weighed_full big in
        let left : length (after_zeros B text) ≡ 22 = omega (arith, cut.size) in
        let over : leb (2 ^ 128) (value B (first_ten B text) * 62 ^ 12) ≡ true = le-leb _ _ (rw (twelve, value_is) at big) in
        rw (left, over) refl

    weighed_fits : number * 62 ^ length later < 2 ^ 128 → shows_overflow B text ≡ false
    weighed_fits small = elim (cases_eq (length (after_zeros B text)) 22) [
      | inl left ↦
          let twelve : length later ≡ 12 = omega (arith, cut.size) in
          let under : leb (2 ^ 128) (value B (first_ten B text) * 62 ^ 12) ≡ false = lt-leb _ _ (rw (twelve, value_is) at small) in
          rw (left, under) refl
      | inr other ↦ rw (ne_eqb (length (after_zeros B text)) 22 other) refl
    ]

    pub decodes_shown : 2 ^ 128 ≤ number * 62 ^ length later
        → DecodesCounted B text old mid (Err ArithmeticOverflow)
    unfolding decoding decoding_steps
    decodes_shown big =
        let letters = list_all-from_AllPass (is_letter B) (first_ten B text) (rw cut.first_is at read.letters) in
        let not_above = le-ltb 22 (length (after_zeros B text)) cut.short in record {
          answer = rw (not_empty text cut.some, not_above, letters, weighed_overflows big) refl;
          steps = rw (not_empty text cut.some, not_above, letters, weighed_overflows big) (omega (arith, read.steps, ten));
          most = omega (arith, read.steps, ten);
        }

    -- and so are the others
    module _ (new : ℕ) (r : Result ℕ DecodeError) (others : ReadsPart B later (zeros + 10) mid new r) where
      whole : ReadsPart B (after_zeros B text) (leading_zeros B text) old new
          (after_number number (length later) r)
      whole =
          rw cut.zeros_are at
          (reads_cut B (after_zeros B text) first 10 zeros old cut.first_is later mid new number (length later) r cut.later_is cut.size read others)

      pub decodes_short : length later ≤ 11
          → DecodesCounted B text old new (after_number number (length later) r)
      decodes_short few = decodes_few B text ok cut.some cut.short old new (after_number number (length later) r) (omega (arith, cut.size)) whole

      pub decodes_later : number * 62 ^ length later < 2 ^ 128
          → DecodesCounted B text old new (or_overflow (after_number number (length later) r))
      decodes_later small = after_zeros_answer B text ok cut.some cut.short old new (after_number number (length later) r) (weighed_fits small) whole

-- ---- checked arithmetic

-- the weight of the first ten bytes
pub weight_is : (n : ℕ) → 10 ≤ n → 62 ^ (n - 10) * 62 ^ 10 ≡ 62 ^ n
weight_is n h = let back : n - 10 + 10 ≡ n = omega arith in sym (pow-add 62 (n - 10) 10) ∙ ap (λ k. 62 ^ k) back

-- where checked arithmetic fails, the result is 2^128 or more
pub too_large : (n : ℕ) → (n < 2 ^ 128 → ⊥) → 2 ^ 128 ≤ n
too_large n h = elim (cases_lt n (2 ^ 128)) [ inl less ↦ absurd (h less) | inr more ↦ more ]

-- the sum if it fits, and otherwise the overflow
pub sum_or_overflow : (o : Option ℕ) (sum : ℕ) → SomeIff o (sum < 2 ^ 128) sum
    → ok_or o ArithmeticOverflow ≡ number_or_overflow sum
sum_or_overflow None sum h = rw (le-ltb sum (2 ^ 128) (too_large sum h)) refl
sum_or_overflow (Some n) sum h = rw (lt-ltb sum (2 ^ 128) h.0) (ap Ok h.1)

-- What `pad` writes of a text is the text padded as the definition says.
use Rattle.std.proofs.Common.{◌≡◌, ℕ, zero, suc, ◌-◌, ◌/◌, ◌^◌, ◌≤◌, ◌<◌, eqb, ltb, replicate, true, cond, List, [], ◌∷◌, ◌++◌, length}
use Rattle.std.proofs.Common.{Option, Some, None, refl, sym, ap, ◌∙◌, subst, append_assoc, arith, inl, inr}
use Rattle.std.specs.Prelude.{IfSome, Result}
use Rattle.std.specs.Option.{option_map}
use Rattle.std.specs.List.{repeat}
use Rattle.std.specs.Fmt.{char_count, take_chars, is_char_start, padded, formatter_spec, spec_width, spec_fill, spec_precision, WritesStyledOnOk, DisplaysStyledOnOk}
use Rattle.std.specs.declared.fmt.Error.{Error}
use Rattle.std.specs.declared.fmt.Formatter.{Formatter}
use Rattle.std.specs.declared.fmt.Alignment.{Alignment}
use Rattle.std.specs.declared.fmt.Alignment.TheVariants.{Left, Right, Center}
use Rattle.std.proofs.lemmas.Bool.{cases_lt, cases_eq, cond_both, ne_eqb, lt-leb, le-leb, lt-ltb}
use Rattle.std.proofs.lemmas.List.{append-nil}
use Rattle.std.proofs.lemmas.Option.{IfSome_then}
use Rattle.std.proofs.lemmas.Str.{encode_ascii}
use Rattle.std.specs.Str.{IsAscii}
use Rattle.base62.specs.Padding.{fills, aligned, padded_to, alignment_of, displayed}

-- a text of at most n bytes has at most n characters
take_chars_all : (n : ℕ) (text : List ℕ) → length text ≤ n → take_chars n text ≡ text
unfolding take_chars
take_chars_all n [] short = refl
take_chars_all n (b ∷ text) short = cond_both (is_char_start b) _ _ (λ shown. shown ≡ b ∷ text)
    (λ start. rw (ne_eqb n 0 (λ e. omega arith), take_chars_all (n - 1) text (omega arith)) refl)
    (λ inside. rw (take_chars_all n text (omega arith)) refl)

-- how much of the padding precedes the text, by the number of the alignment
abbrev in_front : ℕ → ℕ → ℕ
in_front number padding =
    let align = cond (eqb number 0) 1 number in cond (eqb align 1) 0 (cond (eqb align 2) (padding / 2) padding)

module _ (fill : ℕ) (text : List ℕ) where
  -- an alignment with nothing to fill in leaves the text
  aligned-none : (a : Alignment) → aligned a fill 0 text ≡ text
  aligned-none Left = append-nil text
  aligned-none Right = refl
  aligned-none Center = append-nil text

  -- a width requires as many fills as the text is shorter than it, in characters
  padded_to-some : (width : ℕ) (a : Alignment)
      → padded_to (Some width) fill a text ≡ aligned a fill (width - char_count text) text
  padded_to-some width a = elim (cases_lt (char_count text) width) [
    | inl less ↦ rw (lt-leb width (char_count text) less) refl
    | inr more ↦
        let none : width - char_count text ≡ 0 = omega arith in
        rw (le-leb width (char_count text) more, none) (sym (aligned-none a))
  ]

  -- a width of 0 is none
  padded_to-aligned : (width : ℕ) (a : Alignment)
      → padded_to (cond (eqb width 0) None (Some width)) fill a text
      ≡ aligned a fill (width - char_count text) text
  padded_to-aligned width a = elim (cases_eq width 0) [
    | inl none ↦
        let short : width - char_count text ≡ 0 = omega arith in rw (short, none) (sym (aligned-none a))
    | inr some ↦ rw (ne_eqb width 0 some) (padded_to-some width a)
  ]

  -- the text with so much of the padding before it, and the rest after it
  around : (front padding : ℕ) → List ℕ
  around front padding = fills fill front ++ (text ++ fills fill (padding - front))

  -- with what an alignment requires before it, that is the aligned text
  aligned-around : (number padding : ℕ)
      → IfSome (alignment_of number)
      (λ a. around (in_front number padding) padding ≡ aligned a fill padding text)
  unfolding around
  aligned-around zero p = let all : p - 0 ≡ p = omega arith in rw all refl
  aligned-around (suc zero) p = let all : p - 0 ≡ p = omega arith in rw all refl
  aligned-around (suc (suc zero)) p = sym (append_assoc (fills fill (p / 2)) text (fills fill (p - p / 2)))
  aligned-around (suc (suc (suc zero))) p =
      let none : p - p ≡ 0 = omega arith in rw none (ap (λ t. fills fill p ++ t) (append-nil text))
  aligned-around (suc (suc (suc (suc k)))) p =
      let n : ℕ = suc (suc (suc (suc k))) in
      rw (ne_eqb n 0 (λ e. omega arith), ne_eqb n 1 (λ e. omega arith), ne_eqb n 2 (λ e. omega arith), ne_eqb n 3 (λ e. omega arith)) tt

-- a text that equals g of the stated alignment equals f of it, if f and g are one
mapped : (o : Option Alignment) (f g : Alignment → List ℕ) (text : List ℕ)
    → ((a : Alignment) → f a ≡ g a) → IfSome o (λ a. text ≡ g a)
    → IfSome (option_map f o) (λ bs. text ≡ bs)
mapped None f g text same h = tt
mapped (Some a) f g text same h = h ∙ sym (same a)

-- what `pad` writes by the numbers in the options: the text, truncated to the precision, with its padding around it
abbrev written : ℕ → ℕ → ℕ → ℕ → List ℕ → List ℕ
written precision width fill number text =
    let shown = take_chars precision text in
    let padding = width - char_count shown in around fill shown (in_front number padding) padding

-- a display of the text is said to write just that
by_numbers : (precision width fill number : ℕ) (text : List ℕ) → length text ≤ 22
    → IfSome (displayed (cond (eqb precision (2 ^ 64 - 1)) None (Some precision)) (cond (eqb width 0) None (Some width)) fill number text)
    (λ bs. written precision width fill number text ≡ bs)
unfolding displayed
by_numbers precision width fill number text short = elim (cases_eq precision (2 ^ 64 - 1)) [
  | inl none ↦
      let whole : take_chars (2 ^ 64 - 1) text ≡ text = take_chars_all (2 ^ 64 - 1) text (omega arith) in
      let padding = width - char_count text in
      let padded_to_is = padded_to-aligned fill text width in
      rw (none, whole) (mapped (alignment_of number) _ (λ a. aligned a fill padding text) _ padded_to_is (aligned-around fill text number padding))
  | inr some ↦ rw (ne_eqb precision (2 ^ 64 - 1) some) tt
]

-- what a display of the text writes under a formatter's options
abbrev displayed_by : {W : Type 0} → Formatter W → List ℕ → Option (List ℕ)
displayed_by f text =
    let spec = formatter_spec f in displayed (spec_precision spec) (spec_width spec) (spec_fill spec) spec.align text

-- the text that `pad` writes under a formatter's options, as a display is said to write it
displayed-padded : {W : Type 0} (f : Formatter W) (text : List ℕ) → length text ≤ 22
    → IfSome (displayed_by f text) (λ bs. padded (formatter_spec f) text ≡ bs)
unfolding padded around
displayed-padded f text short = by_numbers _ _ _ _ text short

-- if `pad` has written a text, a display has written it
pub pad_displays : {W : Type 0} (took : W → List ℕ → W → Type 0) (f g : Formatter W)
    (r : Result (Unit {0}) Error) (text : List ℕ) → length text ≤ 22
    → WritesStyledOnOk took f r (padded (formatter_spec f) text) g
    → DisplaysStyledOnOk took f r (displayed_by f text) g
pad_displays took f g r text short wrote =
    IfSome_then (displayed_by f text) (displayed-padded f text short) (λ bs same. subst (λ shown. WritesStyledOnOk took f r shown g) same wrote)

-- ---- a text of ASCII, padded by ASCII

-- a text of ASCII has as many characters as bytes
characters-ascii : (text : List ℕ) → IsAscii text → char_count text ≡ length text
unfolding char_count
characters-ascii [] ascii = refl
characters-ascii (b ∷ text) ascii =
    let first : ltb b 128 ≡ true = lt-ltb b 128 (ascii 0) in
    let others = characters-ascii text (λ i. ascii (suc i)) in
    rw (first, others) (omega arith)

repeat-one : (b count : ℕ) → repeat count (b ∷ []) ≡ replicate count b
repeat-one b zero = refl
repeat-one b (suc count) = rw (repeat-one b count) refl

-- a fill of ASCII is one byte
fills-ascii : (fill : ℕ) → fill < 128 → (count : ℕ) → fills fill count ≡ replicate count fill
fills-ascii fill ascii count = rw (encode_ascii fill ascii) (repeat-one fill count)

-- a right-aligned text has as many fills before it as it is shorter than the width, in bytes
pub padded_right : (width fill : ℕ) (text : List ℕ) → IsAscii text → fill < 128
    → padded_to (Some width) fill Right text ≡ replicate (width - length text) fill ++ text
padded_right width fill text ascii small =
    padded_to-some fill text width Right ∙ rw (characters-ascii text ascii, fills-ascii fill small (width - length text)) refl

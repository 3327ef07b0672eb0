-- Digits of UUIDs: their lengths and places, and that no two strings or UUIDs are mixed up.
use Rattle.std.proofs.Common.{◌≡◌, ◌<◌, ◌+◌, ◌-◌, ◌*◌, ◌/◌, ◌%◌, ◌==◌, ◌&&◌, ◌||◌, ℕ, zero, suc, Bool, true, false, List, [], ◌∷◌, ◌++◌, length, map, take, drop, set, get_or, replicate, nat_lt}
use Rattle.std.proofs.Common.{refl, ap, sym, ◌∙◌, subst, inl, inr, append_assoc, length-set, length-drop, arith}
use Rattle.std.specs.Char.{digit_char, digit_value, to_ascii_lowercase}
use Rattle.std.specs.List.{list_all}
use Rattle.std.specs.Str.{IsAscii}
use Rattle.std.proofs.Math.ListN.{get_or-map}
use Rattle.std.proofs.lemmas.Bool.{false≢true}
use Rattle.std.proofs.lemmas.Bool.Decides.{nat_tests}
use Rattle.std.proofs.lemmas.Grind.{flat_map-append}
use Rattle.std.proofs.lemmas.List.{length-map, take_all, take_more, take_more_set}
use Rattle.std.proofs.lemmas.Str.{IsAscii-append, IsAscii-drop, IsAscii-take}
use Rattle.base62.specs.Uuid.{IsUuid}
use Rattle.base62.specs.UuidString.{AreDigitsOf, HasUrn, IsInBraces, IsUuidString, digits, hyphenated, inner}

-- the list of n values, by their indexes
abbrev by_index : ℕ → (ℕ → ℕ) → List ℕ
by_index zero f = []
by_index (suc n) f = f 0 ∷ by_index n (λ k. f (suc k))

by_index_is : (xs : List ℕ) → by_index (length xs) (λ k. get_or xs k 0) ≡ xs
by_index_is [] = refl
by_index_is (x ∷ xs) = ap (λ rest. x ∷ rest) (by_index_is xs)

-- what holds of any n values in a list holds of each list of that length
by_elements : (P : List ℕ → Type 0) (n : ℕ) → ((f : ℕ → ℕ) → P (by_index n f))
    → (xs : List ℕ) → length xs ≡ n → P xs
by_elements P n each xs size =
    subst P (ap (λ m. by_index m (λ k. get_or xs k 0)) (sym size) ∙ by_index_is xs) (each (λ k. get_or xs k 0))

-- a list with bytes copied to an index
abbrev copied : List ℕ → ℕ → List ℕ → List ℕ
copied to index bytes = take index to ++ bytes ++ drop (index + length bytes) to

-- digits copied between hyphens
abbrev pub copied_apart : List ℕ → List ℕ
copied_apart d =
    copied (copied (copied (copied (copied (replicate 36 45)
    0 (take 8 d)) 9 (take 4 (drop 8 d))) 14 (take 4 (drop 12 d))) 19 (take 4 (drop 16 d))) 24 (take 12 (drop 20 d))

pub copied_apart_is : (d : List ℕ) → length d ≡ 32 → copied_apart d ≡ hyphenated d
copied_apart_is = by_elements (λ d. copied_apart d ≡ hyphenated d) 32 (λ f. refl)

-- the bytes where hyphens may be, and the bytes between them copied together
abbrev pub hyphens : List ℕ → List ℕ
hyphens text = get_or text 8 0 ∷ get_or text 13 0 ∷ get_or text 18 0 ∷ get_or text 23 0 ∷ []

abbrev pub copied_together : List ℕ → List ℕ
copied_together text =
    copied (copied (copied (copied (copied (replicate 32 0)
    0 (take 8 text)) 8 (take 4 (drop 9 text))) 12 (take 4 (drop 14 text))) 16 (take 4 (drop 19 text))) 20 (take 12 (drop 24 text))

pub copied_together_is : (text : List ℕ) → length text ≡ 36 → hyphens text ≡ replicate 4 45
    → text ≡ hyphenated (copied_together text)
copied_together_is =
    by_elements (λ text. hyphens text ≡ replicate 4 45 → text ≡ hyphenated (copied_together text)) 36 (λ f e. cc)

pub length-hyphenated : (d : List ℕ) → length d ≡ 32 → length (hyphenated d) ≡ 36
length-hyphenated = by_elements (λ d. length (hyphenated d) ≡ 36) 32 (λ f. refl)

pub lowercase_hyphenated : (d : List ℕ) → length d ≡ 32
    → map to_ascii_lowercase (hyphenated d) ≡ hyphenated (map to_ascii_lowercase d)
lowercase_hyphenated =
    by_elements (λ d. map to_ascii_lowercase (hyphenated d) ≡ hyphenated (map to_ascii_lowercase d)) 32 (λ f. refl)

together_apart : (d : List ℕ) → length d ≡ 32 → copied_together (hyphenated d) ≡ d
together_apart = by_elements (λ d. copied_together (hyphenated d) ≡ d) 32 (λ f. refl)

pub hyphenated_once : (a b : List ℕ) → length a ≡ 32 → length b ≡ 32 → hyphenated a ≡ hyphenated b → a ≡ b
hyphenated_once a b size_of_a size_of_b same =
    sym (together_apart a size_of_a) ∙ ap copied_together same ∙ together_apart b size_of_b

-- a byte that is a hyphen in lowercase is one
lowercase_hyphen : (c : ℕ) → to_ascii_lowercase c ≡ 45 → c ≡ 45
lowercase_hyphen c e = grind (arith, nat_tests)

pub hyphens_at : (text d : List ℕ) → length d ≡ 32 → map to_ascii_lowercase text ≡ hyphenated d
    → hyphens text ≡ replicate 4 45
hyphens_at text d size e =
    let each = by_elements (λ d. hyphens (hyphenated d) ≡ replicate 4 45) 32 (λ f. refl) d size in
    let lower = ap hyphens e ∙ each in
    let at = λ (i : ℕ). get_or-map to_ascii_lowercase text i 0 in
    rw (
      lowercase_hyphen (get_or text 8 0) (sym (at 8) ∙ ap (λ h. get_or h 0 0) lower),
      lowercase_hyphen (get_or text 13 0) (sym (at 13) ∙ ap (λ h. get_or h 1 0) lower),
      lowercase_hyphen (get_or text 18 0) (sym (at 18) ∙ ap (λ h. get_or h 2 0) lower),
      lowercase_hyphen (get_or text 23 0) (sym (at 23) ∙ ap (λ h. get_or h 3 0) lower),
    ) refl

pub length-digits : (uuid : List ℕ) → length (digits uuid) ≡ 2 * length uuid
length-digits [] = refl
length-digits (byte ∷ uuid) = let rest = length-digits uuid in omega arith

-- digits are lowercase
lowercase_digit : (v : ℕ) → v < 16 → to_ascii_lowercase (digit_char v) ≡ digit_char v
lowercase_digit v small = grind (arith, nat_tests)

pub lowercase_digits : (uuid : List ℕ) → ((i : ℕ) → get_or uuid i 0 < 256)
    → map to_ascii_lowercase (digits uuid) ≡ digits uuid
lowercase_digits [] fits = refl
lowercase_digits (byte ∷ uuid) fits =
    let small = fits 0 in
    rw (lowercase_digit (byte / 16) (omega arith), lowercase_digit (byte % 16) (omega arith), lowercase_digits uuid (λ i. fits (suc i))) refl

-- the digits of each byte are at twice its index
pub digits_at : (text uuid : List ℕ) → map to_ascii_lowercase text ≡ digits uuid → (k : ℕ) → k < length uuid
    → (to_ascii_lowercase (get_or text (2 * k) 0) ≡ digit_char (get_or uuid k 0 / 16))
    × (to_ascii_lowercase (get_or text (2 * k + 1) 0) ≡ digit_char (get_or uuid k 0 % 16))
digits_at text [] e k h = absurd (omega (arith, h))
digits_at [] (byte ∷ uuid) e k h = cc
digits_at (x ∷ []) (byte ∷ uuid) e k h = cc
digits_at (x ∷ y ∷ text) (byte ∷ uuid) e zero h = (cc, cc)
digits_at (x ∷ y ∷ text) (byte ∷ uuid) e (suc k) h =
    let high : 2 * suc k ≡ suc (suc (2 * k)) = omega arith in
    let low : 2 * suc k + 1 ≡ suc (suc (2 * k + 1)) = omega arith in
    rw (low, high) (digits_at text uuid (cc) k (omega (arith, h)))

-- a loop goes on by a byte and its two digits
pub digits_more : (uuid : List ℕ) (k : ℕ) → k < length uuid
    → digits (take (k + 1) uuid)
    ≡ digits (take k uuid) ++ digit_char (get_or uuid k 0 / 16) ∷ digit_char (get_or uuid k 0 % 16) ∷ []
digits_more uuid k h = rw (take_more uuid k 0 h, flat_map-append) refl

pub digits_set : (uuid : List ℕ) (k byte : ℕ) → k < length uuid
    → digits (take (k + 1) (set uuid k byte))
    ≡ digits (take k uuid) ++ digit_char (byte / 16) ∷ digit_char (byte % 16) ∷ []
digits_set uuid k byte h = rw (take_more_set uuid k byte h, flat_map-append) refl

pub two_more : (text : List ℕ) (k : ℕ) → 2 * k + 1 < length text
    → take (2 * (k + 1)) text ≡ take (2 * k) text ++ get_or text (2 * k) 0 ∷ get_or text (2 * k + 1) 0 ∷ []
two_more text k h =
    let first : 2 * k < length text = omega arith in
    let end : 2 * (k + 1) ≡ 2 * k + 1 + 1 = omega arith in
    rw (end, take_more text (2 * k + 1) 0 h, take_more text (2 * k) 0 first, append_assoc) refl

pub two_set : (text : List ℕ) (k a b : ℕ) → 2 * k + 1 < length text
    → take (2 * (k + 1)) (set (set text (2 * k) a) (2 * k + 1) b) ≡ take (2 * k) text ++ a ∷ b ∷ []
two_set text k a b h =
    let first : 2 * k < length text = omega arith in
    let second : 2 * k + 1 < length (set text (2 * k) a) = omega (arith, length-set text (2 * k) a) in
    let end : 2 * (k + 1) ≡ 2 * k + 1 + 1 = omega arith in
    rw (end, take_more_set (set text (2 * k) a) (2 * k + 1) b second, take_more_set text (2 * k) a first, append_assoc) refl

-- a byte is stored among bytes
pub bytes_set : (xs : List ℕ) (k byte : ℕ) → byte < 256 → ((i : ℕ) → get_or xs i 0 < 256)
    → (i : ℕ) → get_or (set xs k byte) i 0 < 256
bytes_set [] k byte small fits i = fits i
bytes_set (x ∷ xs) zero byte small fits zero = small
bytes_set (x ∷ xs) zero byte small fits (suc i) = fits (suc i)
bytes_set (x ∷ xs) (suc k) byte small fits zero = fits 0
bytes_set (x ∷ xs) (suc k) byte small fits (suc i) = bytes_set xs k byte small (λ j. fits (suc j)) i

pub bytes_replicate : (n byte : ℕ) → byte < 256 → (i : ℕ) → get_or (replicate n byte) i 0 < 256
bytes_replicate zero byte small i = omega arith
bytes_replicate (suc n) byte small zero = small
bytes_replicate (suc n) byte small (suc i) = bytes_replicate n byte small i

-- no two UUIDs have the same digits
digit_once : (a b : ℕ) → a < 16 → b < 16 → digit_char a ≡ digit_char b → a ≡ b
digit_once a b small_a small_b same = grind (arith, nat_tests)

pub digits_once : (a b : List ℕ) → ((i : ℕ) → get_or a i 0 < 256) → ((i : ℕ) → get_or b i 0 < 256)
    → digits a ≡ digits b → a ≡ b
digits_once [] [] fits_a fits_b same = refl
digits_once [] (y ∷ b) fits_a fits_b same = cc
digits_once (x ∷ a) [] fits_a fits_b same = cc
digits_once (x ∷ a) (y ∷ b) fits_a fits_b same =
    let small_x = fits_a 0 in
    let small_y = fits_b 0 in
    let high : x / 16 ≡ y / 16 = digit_once (x / 16) (y / 16) (omega arith) (omega arith) (cc) in
    let low : x % 16 ≡ y % 16 = digit_once (x % 16) (y % 16) (omega arith) (omega arith) (cc) in
    let first : x ≡ y = omega arith in
    let rest : a ≡ b = digits_once a b (λ i. fits_a (suc i)) (λ i. fits_b (suc i)) (cc) in
    cc

-- digits begin with one, and not with `{` or `u`
digit_char-lt : (v : ℕ) → v < 16 → digit_char v < 103
digit_char-lt v small = grind (arith, nat_tests)

first_of : (uuid : List ℕ) → 0 < length uuid → get_or (digits uuid) 0 0 ≡ digit_char (get_or uuid 0 0 / 16)
first_of [] some = absurd (omega (arith, some))
first_of (byte ∷ uuid) some = refl

first_digit : (text uuid : List ℕ) → AreDigitsOf uuid text → to_ascii_lowercase (get_or text 0 0) < 103
first_digit text uuid are =
    let size = are.bytes.size in
    let fits = are.bytes.bytes 0 in
    let small = digit_char-lt (get_or uuid 0 0 / 16) (omega arith) in
    let count : length (digits uuid) ≡ 32 = omega (arith, length-digits uuid) in
    let first = λ (d : List ℕ) (e : map to_ascii_lowercase text ≡ d).
    sym (get_or-map to_ascii_lowercase text 0 0) ∙ ap (λ t. get_or t 0 0) e in
    elim are.digits [
      | inl e ↦ rw (first (digits uuid) e ∙ first_of uuid (omega arith)) small
      | inr e ↦
          let same = by_elements (λ d. get_or (hyphenated d) 0 0 ≡ get_or d 0 0) 32 (λ f. refl) (digits uuid) count in
          rw (first (hyphenated (digits uuid)) e ∙ same ∙ first_of uuid (omega arith)) small
    ]

pub no_braces : (text uuid : List ℕ) → AreDigitsOf uuid text → IsInBraces text → ⊥
no_braces text uuid are braces = let first = rw braces.opens at (first_digit text uuid are) in omega (arith, first)

urn_first : (text : List ℕ) → HasUrn text → to_ascii_lowercase (get_or text 0 0) ≡ 117
urn_first [] has = absurd (omega (arith, has.size))
urn_first (x ∷ rest) has = let e = has.urn in cc

pub no_urn : (text uuid : List ℕ) → AreDigitsOf uuid text → HasUrn text → ⊥
no_urn text uuid are has = let first = rw (urn_first text has) at (first_digit text uuid are) in omega (arith, first)

pub urn_no_braces : (text : List ℕ) → HasUrn text → IsInBraces text → ⊥
urn_no_braces text has braces =
    let e : to_ascii_lowercase 123 ≡ 117 = rw braces.opens at (urn_first text has) in
    omega (arith, e)

-- the bytes of a slice of the text
pub inner_slice : (text : List ℕ) → take (length text - 1 - 1) (drop 1 text) ≡ inner text
inner_slice text = ap (λ k. take k (drop 1 text)) (omega arith)

pub urn_slice : (text : List ℕ) → take (length text - 9) (drop 9 text) ≡ drop 9 text
urn_slice text = take_all (length text - 9) (drop 9 text) (omega (arith, length-drop 9 text))

-- what is written is read back
pub written_back : (uuid : List ℕ) → IsUuid uuid → IsUuidString (hyphenated (digits uuid)) uuid
written_back uuid is =
    let size = is.size in
    let count : length (digits uuid) ≡ 32 = omega (arith, length-digits uuid) in
    inl (record {
      bytes = is;
      digits = inr (rw (lowercase_hyphenated (digits uuid) count, lowercase_digits uuid is.bytes) refl);
    })

-- what is written is ASCII
digits_ascii : (uuid : List ℕ) → ((i : ℕ) → get_or uuid i 0 < 256) → (i : ℕ) → get_or (digits uuid) i 0 < 128
digits_ascii [] fits i = omega arith
digits_ascii (byte ∷ uuid) fits zero =
    let small = fits 0 in
    let digit = digit_char-lt (byte / 16) (omega arith) in omega arith
digits_ascii (byte ∷ uuid) fits (suc zero) =
    let digit = digit_char-lt (byte % 16) (omega arith) in omega arith
digits_ascii (byte ∷ uuid) fits (suc (suc i)) = digits_ascii uuid (λ i. fits (suc i)) i

hyphen_ascii : (i : ℕ) → get_or (45 ∷ []) i 0 < 128
hyphen_ascii zero = omega arith
hyphen_ascii (suc i) = omega arith

pub hyphenated_ascii : (uuid : List ℕ) → IsUuid uuid → IsAscii (hyphenated (digits uuid))
hyphenated_ascii uuid is =
    let d = digits uuid in
    let part = λ (k n : ℕ). IsAscii-take (drop k d) n (IsAscii-drop d k (digits_ascii uuid is.bytes)) in
    let more = λ (front : List ℕ) (ascii : IsAscii front) (k n : ℕ).
    IsAscii-append (front ++ 45 ∷ []) (take n (drop k d)) (IsAscii-append front (45 ∷ []) ascii hyphen_ascii) (part k n) in
    more _ (more _ (more _ (more _ (part 0 8) 8 4) 12 4) 16 4) 20 12

-- no string is for two UUIDs
one_of_digits : (text a b : List ℕ) → AreDigitsOf a text → AreDigitsOf b text → a ≡ b
one_of_digits text a b of_a of_b =
    let size_a = of_a.bytes.size in
    let size_b = of_b.bytes.size in
    let count_a : length (digits a) ≡ 32 = omega (arith, length-digits a) in
    let count_b : length (digits b) ≡ 32 = omega (arith, length-digits b) in
    let once = digits_once a b of_a.bytes.bytes of_b.bytes.bytes in
    elim of_a.digits [
      | inl plain ↦ elim of_b.digits [
        | inl other ↦ once (sym plain ∙ other)
        | inr other ↦ absurd (omega (arith, count_a, length-hyphenated (digits b) count_b, ap length (sym plain ∙ other)))
      ]
      | inr apart ↦ elim of_b.digits [
        | inl other ↦ absurd (omega (arith, count_b, length-hyphenated (digits a) count_a, ap length (sym apart ∙ other)))
        | inr other ↦ once (hyphenated_once (digits a) (digits b) count_a count_b (sym apart ∙ other))
      ]
    ]

pub one_uuid : (text a b : List ℕ) → IsUuidString text a → IsUuidString text b → a ≡ b
one_uuid text a b of_a of_b = elim of_a [
  | inl plain ↦ elim of_b [
    | inl other ↦ one_of_digits text a b plain other
    | inr rest ↦ elim rest [
      | inl other ↦ absurd (no_braces text a plain other.0)
      | inr other ↦ absurd (no_urn text a plain other.0)
    ]
  ]
  | inr more ↦ elim more [
    | inl braced ↦ elim of_b [
      | inl other ↦ absurd (no_braces text b other braced.0)
      | inr rest ↦ elim rest [
        | inl other ↦ one_of_digits (inner text) a b braced.1 other.1
        | inr other ↦ absurd (urn_no_braces text other.0 braced.0)
      ]
    ]
    | inr urned ↦ elim of_b [
      | inl other ↦ absurd (no_urn text b other urned.0)
      | inr rest ↦ elim rest [
        | inl other ↦ absurd (urn_no_braces text urned.0 other.0)
        | inr other ↦ one_of_digits (drop 9 text) a b urned.1 other.1
      ]
    ]
  ]
]

-- A test that each string for a UUID passes. Computation shows that a literal fails it.
abbrev may_be_digits : List ℕ → Bool
may_be_digits text =
    ((length text == 32) && list_all (λ c. nat_lt (digit_value c) 16) text)
    || ((length text == 36) && (get_or text 8 0 == 45))

abbrev may_be_string : List ℕ → Bool
may_be_string text =
    may_be_digits text
    || ((get_or text 0 0 == 123) && (get_or text (length text - 1) 0 == 125) && may_be_digits (inner text))
    || ((to_ascii_lowercase (get_or text 3 0) == 58) && may_be_digits (drop 9 text))

value_of_digit : (c v : ℕ) → v < 16 → to_ascii_lowercase c ≡ digit_char v → nat_lt (digit_value c) 16 ≡ true
value_of_digit c v small e = grind (arith, nat_tests)

values_of_digits : (text uuid : List ℕ) → ((i : ℕ) → get_or uuid i 0 < 256) → map to_ascii_lowercase text ≡ digits uuid
    → list_all (λ c. nat_lt (digit_value c) 16) text ≡ true
values_of_digits [] uuid fits e = refl
values_of_digits (x ∷ text) [] fits e = cc
values_of_digits (x ∷ []) (byte ∷ uuid) fits e = cc
values_of_digits (x ∷ y ∷ text) (byte ∷ uuid) fits e =
    let small = fits 0 in
    let high = value_of_digit x (byte / 16) (omega arith) (cc) in
    let low = value_of_digit y (byte % 16) (omega arith) (cc) in
    rw (high, low, values_of_digits text uuid (λ i. fits (suc i)) (cc)) refl

may_be : (text uuid : List ℕ) → AreDigitsOf uuid text → may_be_digits text ≡ true
may_be text uuid are =
    let size = are.bytes.size in
    let count : length (digits uuid) ≡ 32 = omega (arith, length-digits uuid) in
    elim are.digits [
      | inl e ↦
          let plain : length text ≡ 32 = omega (arith, simp length-map at (ap length e)) in
          rw (plain, values_of_digits text uuid are.bytes.bytes e) refl
      | inr e ↦
          let long : length text ≡ 36 = omega (arith, length-hyphenated (digits uuid) count, simp length-map at (ap length e)) in
          let hyphen : get_or text 8 0 ≡ 45 = ap (λ h. get_or h 0 0) (hyphens_at text (digits uuid) count e) in
          rw (long, hyphen) refl
    ]

urn_colon : (text : List ℕ) → HasUrn text → to_ascii_lowercase (get_or text 3 0) ≡ 58
urn_colon [] has = absurd (omega (arith, has.size))
urn_colon (a ∷ []) has = absurd (omega (arith, has.size))
urn_colon (a ∷ b ∷ []) has = absurd (omega (arith, has.size))
urn_colon (a ∷ b ∷ x ∷ []) has = absurd (omega (arith, has.size))
urn_colon (a ∷ b ∷ x ∷ y ∷ rest) has = let e = has.urn in cc

pub no_string : (text : List ℕ) → may_be_string text ≡ false → (uuid : List ℕ) → IsUuidString text uuid → ⊥
no_string text fails uuid is = elim is [
  | inl are ↦ false≢true (sym fails ∙ rw (may_be text uuid are) refl)
  | inr other ↦ elim other [
    | inl both ↦
        let digits = may_be (inner text) uuid both.1 in
        let opens = both.0.opens in
        let closes = both.0.closes in
        grind (arith, nat_tests)
    | inr both ↦
        let digits = may_be (drop 9 text) uuid both.1 in
        let colon = urn_colon text both.0 in
        grind (arith, nat_tests)
  ]
]

-- The bytes of a number, and the number of bytes.
use Rattle.std.proofs.Common.{◌≡◌, ℕ, zero, suc, ◌/◌, ◌%◌, ◌^◌, ◌<◌, List, length, get_or, Ok, Err, refl, sym, ap, ◌∙◌, arith}
use Rattle.std.proofs.Math.Arith.{mod-mul}
use Rattle.std.proofs.Math.Nat.{one-le-pow, pow-suc, pow-zero}
use Rattle.std.specs.Int.{w128, byte_at, bytes_high_first, to_be_bytes, from_be_bytes}
use Rattle.std.proofs.lemmas.List.Elements.{All-from_get_or}
use Rattle.base62.specs.declared.fault.CanonicalError.{CanonicalError}
use Rattle.base62.specs.declared.fault.CanonicalError.TheVariants.{LeadingZero, Decode}
use Rattle.base62.specs.declared.fault.DecodeError.{DecodeError}
use Rattle.base62.specs.declared.fault.DecodeError.TheVariants.{InvalidBase62Byte}
use Rattle.base62.specs.Places.{sum_over_places}
use Rattle.base62.specs.Alphabet.{IsAlphabet}
use Rattle.base62.specs.Canonical.{Denotes}
use Rattle.base62.specs.Decoding.{decoding, DecodesCanonical}
use Rattle.base62.specs.Uuid.{IsUuid, uuid_number, DecodesUuid, DecodesUuidCanonical}
use Rattle.base62.proofs.PlacesLemmas.{places-nil, places-cons, places-lt, same_digits}
use Rattle.base62.proofs.ResultLemmas.{decoding-denotes, names_first}

-- std's number of sixteen bytes is their sum over places
pub number_from_bytes : (uuid : List ℕ) → length uuid ≡ 16
    → from_be_bytes w128 uuid ≡ uuid_number uuid
unfolding sum_over_places
number_from_bytes uuid size = rw size (omega arith)

length-bytes : (k n : ℕ) → length (bytes_high_first k n) ≡ k
length-bytes zero n = refl
length-bytes (suc k) n = ap suc (length-bytes k n)

byte_at_is : (k n : ℕ) → byte_at k n ≡ n / 256 ^ k % 256
byte_at_is zero n = omega arith
byte_at_is (suc k) n = refl

bytes_small : (k n i : ℕ) → get_or (bytes_high_first k n) i 0 < 256
bytes_small zero n i = omega arith
bytes_small (suc k) n zero = omega (arith, byte_at_is k n)
bytes_small (suc k) n (suc i) = bytes_small k n i

-- the lowest k bytes of a number denote the number modulo 256^k
sum_of_lowest : (k n : ℕ) → sum_over_places 256 (bytes_high_first k n) ≡ n % 256 ^ k
sum_of_lowest zero n = rw (places-nil 256, pow-zero 256) (omega arith)
sum_of_lowest (suc k) n =
    let some : 0 < 256 ^ k = one-le-pow k 256 (omega arith) in
    rw (places-cons 256 (byte_at k n) (bytes_high_first k n), length-bytes k n, byte_at_is k n, sum_of_lowest k n, pow-suc 256 k)
    (sym (mod-mul n {m = 256} {c = 256 ^ k} (omega arith) some) ∙ ap (λ m. n % m) (omega arith))

-- so all sixteen denote it, if it is below 2^128
pub number_of_bytes : (n : ℕ) → n < 2 ^ 128 → uuid_number (to_be_bytes w128 n) ≡ n
number_of_bytes n small = sum_of_lowest 16 n ∙ omega (arith, small)

pub bytes_are_uuid : (n : ℕ) → IsUuid (to_be_bytes w128 n)
bytes_are_uuid n = record { size = length-bytes 16 n; bytes = bytes_small 16 n }

-- two UUIDs of one number are one
pub same_uuid : (a b : List ℕ) → IsUuid a → IsUuid b → uuid_number a ≡ uuid_number b → a ≡ b
same_uuid a b p q e =
    same_digits 256 a b (p.size ∙ sym q.size) (All-from_get_or (λ b. b < 256) a 0 (λ i h. p.bytes i)) (All-from_get_or (λ b. b < 256) b 0 (λ i h. q.bytes i)) e

-- sixteen bytes denote less than 2^128
pub uuid_number-lt : (uuid : List ℕ) → IsUuid uuid → uuid_number uuid < 2 ^ 128
uuid_number-lt uuid is = rw is.size at (places-lt 256 uuid (All-from_get_or (λ b. b < 256) uuid 0 (λ i h. is.bytes i)))

module _ (B : List ℕ) (ok : IsAlphabet B) (text : List ℕ) where
  decoded : (uuid : List ℕ) → IsUuid uuid → Denotes B text (uuid_number uuid)
      → decoding B text ≡ Ok (uuid_number uuid)
  decoded uuid is denotes = decoding-denotes B ok (uuid_number uuid) (uuid_number-lt uuid is) text denotes

  -- the result as a UUID of decoding: a number, and an error
  pub number_decoded : (n : ℕ) → n < 2 ^ 128 → decoding B text ≡ Ok n
      → DecodesUuid B text (Ok (to_be_bytes w128 n))
  number_decoded n small is =
      let same = λ (uuid : List ℕ) (ok : IsUuid uuid) (e : n ≡ uuid_number uuid). same_uuid _ uuid (bytes_are_uuid n) ok (number_of_bytes n small ∙ e) in
      record {
        number = λ uuid e. let same : to_be_bytes w128 n ≡ uuid = cc in is ∙ ap Ok (sym (number_of_bytes n small) ∙ ap uuid_number same);
        uuid = λ uuid ok e. ap Ok (same uuid ok cc);
        denoted = λ uuid ok denotes. let e = decoded uuid ok denotes in ap Ok (same uuid ok cc);
        refused = λ fault e. cc;
        fault = λ fault e. cc;
        named = tt;
      }

  pub fault_decoded : (e : DecodeError) → decoding B text ≡ Err e → DecodesUuid B text (Err e)
  fault_decoded e is = record {
    number = λ uuid none. cc;
    uuid = λ uuid ok none. cc;
    denoted = λ uuid ok denotes. let none = decoded uuid ok denotes in cc;
    refused = λ fault same. cc;
    fault = λ fault same. cc;
    named = rw is at (names_first B ok text);
  }

module _ (B text : List ℕ) where
  -- the result as a UUID of canonical decoding: a number, and an error
  pub canonical_decoded : (n : ℕ) → n < 2 ^ 128 → DecodesCanonical B text (Ok n)
      → DecodesUuidCanonical B text (Ok (to_be_bytes w128 n))
  canonical_decoded n small is =
      let number : uuid_number (to_be_bytes w128 n) ≡ n = number_of_bytes n small in
      record {
        accepted = λ uuid ok canonical.
            let same : Ok n ≡ Ok (uuid_number uuid) = is.accepted (uuid_number uuid) canonical (uuid_number-lt uuid ok) in
            let e : n ≡ uuid_number uuid = cc in
            ap Ok (same_uuid _ uuid (bytes_are_uuid n) ok (number ∙ e));
        canonical = λ uuid e. let same : to_be_bytes w128 n ≡ uuid = cc in rw (sym number ∙ ap uuid_number same) at (is.canonical n refl);
        back = λ uuid e. let same : to_be_bytes w128 n ≡ uuid = cc in is.back n refl ∙ ap Ok (sym number ∙ ap uuid_number same);
        leading = λ m decoded more zero. let none = is.leading m decoded more zero in cc;
        zeros = λ none. cc;
        refused = λ fault e. let none = is.refused fault e in cc;
        fault = λ fault e. cc;
        named = λ byte index e. cc;
      }

  pub canonical_refused : (e : CanonicalError) → DecodesCanonical B text (Err e) → DecodesUuidCanonical B text (Err e)
  canonical_refused e is = record {
    accepted = λ uuid ok canonical. let some = is.accepted (uuid_number uuid) canonical (uuid_number-lt uuid ok) in cc;
    canonical = λ uuid same. cc;
    back = λ uuid same. cc;
    leading = λ m decoded more zero. let same = is.leading m decoded more zero in cc;
    zeros = λ same. let equal : e ≡ LeadingZero = cc in is.zeros (ap Err equal);
    refused = λ fault same. let other = is.refused fault same in cc;
    fault = λ fault same. let equal : e ≡ Decode fault = cc in is.fault fault (ap Err equal);
    named = λ byte index same. let equal : e ≡ Decode (InvalidBase62Byte byte index) = cc in is.named byte index (ap Err equal);
  }

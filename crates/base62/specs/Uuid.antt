-- UUIDs: sixteen bytes, and the number that they denote.
use Rattle.std.specs.Prelude.{◌≡◌, ℕ, ◌<◌, List, length, slice_index, Result, Ok, Err, IsOk, IfErr}
use Rattle.base62.specs.declared.fault.CanonicalError.{CanonicalError}
use Rattle.base62.specs.declared.fault.CanonicalError.TheVariants.{LeadingZero, Decode}
use Rattle.base62.specs.declared.fault.DecodeError.{DecodeError}
use Rattle.base62.specs.declared.fault.DecodeError.TheVariants.{InvalidBase62Byte}
use Rattle.base62.specs.Places.{sum_over_places}
use Rattle.base62.specs.Alphabet.{zero_letter}
use Rattle.base62.specs.Canonical.{Denotes, IsCanonical}
use Rattle.base62.specs.Decoding.{decoding, IsFirstInvalid, NamesFirst}

-- sixteen bytes
pub record IsUuid (uuid : List ℕ) : Type 0 where
  pub size : length uuid ≡ 16
  pub bytes : (i : ℕ) → slice_index uuid i < 256

-- the number of the bytes, the most significant first
abbrev pub uuid_number : List ℕ → ℕ
uuid_number uuid = sum_over_places 256 uuid

-- A text is decoded to the UUID of its number, and has the errors of decoding.
pub record DecodesUuid (B text : List ℕ) (result : Result (List ℕ) DecodeError) : Type 0 where
  pub number : (uuid : List ℕ) → result ≡ Ok uuid → decoding B text ≡ Ok (uuid_number uuid)
  pub uuid : (uuid : List ℕ) → IsUuid uuid → decoding B text ≡ Ok (uuid_number uuid)
      → result ≡ Ok uuid
  pub denoted : (uuid : List ℕ) → IsUuid uuid → Denotes B text (uuid_number uuid) → result ≡ Ok uuid
  pub refused : (fault : DecodeError) → result ≡ Err fault → decoding B text ≡ Err fault
  pub fault : (fault : DecodeError) → decoding B text ≡ Err fault → result ≡ Err fault
  pub named : IfErr result (NamesFirst B text)

-- Canonical decoding to a UUID. The result is a UUID exactly for the canonical text of its number.
-- It is LeadingZero exactly for the other texts that decode to a number. For every other text it is
-- the error of decoding.
pub record DecodesUuidCanonical
    (B text : List ℕ) (result : Result (List ℕ) CanonicalError) : Type 0 where
  pub accepted : (uuid : List ℕ) → IsUuid uuid → IsCanonical B text (uuid_number uuid)
      → result ≡ Ok uuid
  pub canonical : (uuid : List ℕ) → result ≡ Ok uuid → IsCanonical B text (uuid_number uuid)
  pub back : (uuid : List ℕ) → result ≡ Ok uuid → decoding B text ≡ Ok (uuid_number uuid)
  pub leading : (n : ℕ) → decoding B text ≡ Ok n → 1 < length text
      → slice_index text 0 ≡ zero_letter B → result ≡ Err LeadingZero
  pub zeros : result ≡ Err LeadingZero
      → IsOk (decoding B text) × (1 < length text) × (slice_index text 0 ≡ zero_letter B)
  pub refused : (fault : DecodeError) → decoding B text ≡ Err fault → result ≡ Err (Decode fault)
  pub fault : (fault : DecodeError) → result ≡ Err (Decode fault) → decoding B text ≡ Err fault
  pub named : (byte index : ℕ) → result ≡ Err (Decode (InvalidBase62Byte byte index))
      → IsFirstInvalid B text byte index

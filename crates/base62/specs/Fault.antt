-- The messages of errors, and their order.
use Rattle.std.specs.Prelude.{ℕ, ◌==◌, ◌&&◌, nat_le, if◌then◌else◌, List, [], ◌∷◌, ◌++◌, codes, decimal}
use Rattle.std.specs.Char.Escape.{hex_digit_at}
use Rattle.std.specs.Ordering.{nat_cmp, ordering_then}
use Rattle.std.specs.declared.cmp.Ordering.{Ordering}
use Rattle.std.specs.declared.cmp.Ordering.TheVariants.{Less, Equal, Greater}
use Rattle.base62.specs.declared.fault.AlphabetError.{AlphabetError}
use Rattle.base62.specs.declared.fault.AlphabetError.TheVariants.{Repeated}
use Rattle.base62.specs.declared.fault.CanonicalError.{CanonicalError}
use Rattle.base62.specs.declared.fault.CanonicalError.TheVariants.{LeadingZero, Decode}
use Rattle.base62.specs.declared.fault.DecodeError.{DecodeError}
use Rattle.base62.specs.declared.fault.DecodeError.TheVariants.{ArithmeticOverflow, EmptyInput, InvalidBase62Byte}
use Rattle.base62.specs.declared.fault.EncodeError.{EncodeError}
use Rattle.base62.specs.declared.fault.EncodeError.TheVariants.{BufferTooSmall}
use Rattle.base62.specs.declared.fault.FixedError.{FixedError}
use Rattle.base62.specs.declared.fault.FixedError.TheVariants.{WrongLength, Decode as FixedDecode}
use Rattle.base62.specs.declared.fault.UuidError.{UuidError}
use Rattle.base62.specs.declared.fault.UuidError.TheVariants.{InvalidUuid}

-- A byte escaped as by `std::ascii::escape_default`. A tab, a line feed, a carriage return, a quote
-- of either kind and a backslash become a backslash and one character. Any other byte from 32 to
-- 126 is unchanged. All others become `\x` and two lowercase hexadecimal digits.
unfoldable pub escaped : ℕ → List ℕ
escaped b =
    if b == 9 then codes "\\t"
    else if b == 10 then codes "\\n"
    else if b == 13 then codes "\\r"
    else if b == 34 then codes "\\\""
    else if b == 39 then codes "\\'"
    else if b == 92 then codes "\\\\"
    else if nat_le 32 b && nat_le b 126 then b ∷ []
    else codes "\\x" ++ hex_digit_at 16 b ∷ hex_digit_at 1 b ∷ []

-- a byte and its index in a message
unfoldable pub byte_at_index : ℕ → ℕ → List ℕ
byte_at_index byte index = codes "byte b'" ++ escaped byte ++ codes "' at index " ++ decimal index

-- the message of an error of decoding
unfoldable pub decode_error_text : DecodeError → List ℕ
decode_error_text ArithmeticOverflow = codes "Decoded number cannot fit into a `u128`"
decode_error_text EmptyInput = codes "Encoded input is an empty string"
decode_error_text (InvalidBase62Byte byte index) =
    codes "Encoded input contains the invalid " ++ byte_at_index byte index

-- the message of an error of canonical decoding
unfoldable pub canonical_error_text : CanonicalError → List ℕ
canonical_error_text LeadingZero = codes "Encoded input has a leading zero"
canonical_error_text (Decode fault) = decode_error_text fault

-- the message of an error of fixed decoding
unfoldable pub fixed_error_text : FixedError → List ℕ
fixed_error_text WrongLength = codes "Encoded input does not have the given width"
fixed_error_text (FixedDecode fault) = decode_error_text fault

-- the message of an error of encoding
unfoldable pub encode_error_text : EncodeError → List ℕ
encode_error_text BufferTooSmall = codes "Buffer too small to encode the number"

-- the message of an error of an alphabet
unfoldable pub alphabet_error_text : AlphabetError → List ℕ
alphabet_error_text (Repeated byte index) =
    codes "Alphabet repeats the " ++ byte_at_index byte index

-- the message of an error of decoding the string of a UUID
unfoldable pub uuid_error_text : UuidError → List ℕ
uuid_error_text InvalidUuid = codes "Not a UUID"

-- a byte and its index compare with others by the byte, and then by the index
abbrev pub byte_then_index : ℕ → ℕ → ℕ → ℕ → Ordering
byte_then_index b i c j = ordering_then (nat_cmp b c) (nat_cmp i j)

-- the rank of each kind of error in the order
abbrev pub decode_error_rank : DecodeError → ℕ
decode_error_rank ArithmeticOverflow = 0
decode_error_rank EmptyInput = 1
decode_error_rank (InvalidBase62Byte byte index) = 2

-- two bad bytes compare by byte and then by index, and any other two errors by their kinds
abbrev pub decode_error_order : DecodeError → DecodeError → Ordering
decode_error_order (InvalidBase62Byte b i) (InvalidBase62Byte c j) = byte_then_index b i c j
decode_error_order d e = nat_cmp (decode_error_rank d) (decode_error_rank e)

-- a leading zero is less than any error of decoding, and two of those compare as there
abbrev pub canonical_error_order : CanonicalError → CanonicalError → Ordering
canonical_error_order LeadingZero LeadingZero = Equal
canonical_error_order LeadingZero (Decode e) = Less
canonical_error_order (Decode d) LeadingZero = Greater
canonical_error_order (Decode d) (Decode e) = decode_error_order d e

-- a wrong length is less than any error of decoding, and two of those compare as there
abbrev pub fixed_error_order : FixedError → FixedError → Ordering
fixed_error_order WrongLength WrongLength = Equal
fixed_error_order WrongLength (FixedDecode e) = Less
fixed_error_order (FixedDecode d) WrongLength = Greater
fixed_error_order (FixedDecode d) (FixedDecode e) = decode_error_order d e

-- the order of errors of alphabets
abbrev pub alphabet_error_order : AlphabetError → AlphabetError → Ordering
alphabet_error_order (Repeated b i) (Repeated c j) = byte_then_index b i c j

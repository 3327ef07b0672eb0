-- What unfolds in a clause about literal texts, so that computation proves it.
use Rattle.std.specs.Prelude.{⊤}
use Rattle.std.specs.Char.{encode_utf8}
use Rattle.std.specs.Fmt.{char_count, digits}
use Rattle.base62.specs.Alphabet.{standard, alternative, digit_of}
use Rattle.base62.specs.Places.{sum_over_places}
use Rattle.base62.specs.Value.{value}
use Rattle.base62.specs.Decoding.{decoding}
use Rattle.base62.specs.Steps.{decoding_steps, encoding_steps}
use Rattle.base62.specs.Fault.{escaped, byte_at_index, decode_error_text, canonical_error_text, fixed_error_text, encode_error_text, alphabet_error_text, uuid_error_text}
use Rattle.base62.specs.Padding.{displayed}
use Rattle.base62.specs.Case.{other_case}
use Rattle.base62.specs.Range.{interval_ends}

unfoldable pub base62_on_literals : ⊤
unfolding encode_utf8 char_count digits standard alternative digit_of sum_over_places value decoding
    decoding_steps encoding_steps escaped byte_at_index decode_error_text canonical_error_text
    fixed_error_text encode_error_text alphabet_error_text uuid_error_text displayed other_case
    interval_ends
base62_on_literals = tt

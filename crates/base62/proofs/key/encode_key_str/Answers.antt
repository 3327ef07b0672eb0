use Rattle.std.proofs.lemmas.Str.{IsUtf8-from_ascii}
use Rattle.base62.specs.Alphabet.{standard}
use Rattle.base62.proofs.AlphabetLemmas.{standard_is_ascii}
use Rattle.base62.proofs.LetterLemmas.{letters_ascii}
use Rattle.base62.proofs.key.encode_key_str.Goals as goal

pub from_utf8_unchecked-requires : goal.from_utf8_unchecked-requires
from_utf8_unchecked-requires g c = IsUtf8-from_ascii _ (letters_ascii standard standard_is_ascii _ c.encode_key.ensures.denotes.letters)

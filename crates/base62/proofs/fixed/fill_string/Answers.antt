use Rattle.std.proofs.Common.{length, rules}
use Rattle.std.proofs.lemmas.Str.{IsUtf8-from_ascii}
use Rattle.base62.specs.Fixed.{IsFixed}
use Rattle.base62.proofs.LetterLemmas.{letters_ascii}
use Rattle.base62.proofs.fixed.fill_string.Goals as goal

pub from_utf8_unchecked-requires : goal.from_utf8_unchecked-requires
from_utf8_unchecked-requires c =
    let B = c.args.tables.now.letters in
    let text : IsFixed B (length c.args.places.now) c.encode_fixed_over.new.places c.args.n = search rules in
    IsUtf8-from_ascii _ (letters_ascii B c.requires.ascii _ text.denotes.letters)

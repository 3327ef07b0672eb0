use Rattle.std.proofs.Common.{◌<◌, ◌^◌, rules, arith}
use Rattle.std.proofs.lemmas.Str.{IsUtf8-from_ascii}
use Rattle.base62.proofs.CanonicalLemmas.{canonical_is_ascii}
use Rattle.base62.proofs.EncodingLemmas.{filled_canonical, filled_back}
use Rattle.base62.proofs.target.string_over.Goals as goal

pub from_utf8_unchecked-requires : goal.from_utf8_unchecked-requires
from_utf8_unchecked-requires g c =
    let B = c.args.tables.now.letters in
    let count = c.digit_count-len.ensures in
    let small : c.number-n.result < 2 ^ 128 = omega arith in
    let canonical = filled_canonical B c.requires.tables.alphabet c.number-n.result _ small count.counted count.most in
    IsUtf8-from_ascii _ (canonical_is_ascii B c.requires.ascii _ _ (canonical _ _ _ _ (search rules) (search rules) c.write_number.ensures.written))

pub returns : goal.returns
returns g c =
    let B = c.args.tables.now.letters in
    let count = c.digit_count-len.ensures in
    let small : c.number-n.result < 2 ^ 128 = omega arith in
    let canonical = filled_canonical B c.requires.tables.alphabet c.number-n.result _ small count.counted count.most in
    let back = filled_back B c.requires.tables.alphabet c.number-n.result _ small count.counted count.most in
    record {
      text = rw (c.from_utf8_unchecked.ensures.value, ← c.number-n.ensures) (canonical _ _ _ _ (search rules) (search rules) c.write_number.ensures.written);
      back = rw (c.from_utf8_unchecked.ensures.value, ← c.number-n.ensures) (back _ _ _ _ (search rules) (search rules) c.write_number.ensures.written);
    }

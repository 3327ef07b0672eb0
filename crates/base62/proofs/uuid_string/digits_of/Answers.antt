use Rattle.std.proofs.Common.{◌≡◌, ◌*◌, length, take, arith, refl, ap, sym, ◌∙◌, length-set}
use Rattle.std.proofs.lemmas.List.{take_all}
use Rattle.base62.specs.UuidString.{digits}
use Rattle.base62.proofs.UuidStringLemmas.{digits_more, two_set}
use Rattle.base62.proofs.uuid_string.digits_of.Goals as goal

pub loop-index-preserved : goal.loop-index-preserved
loop-index-preserved c =
    let loop = c.loop-index in
    let before = loop.invariant.written in
    let high = c.hex_digit.ensures.value in
    let low = c.hex_digit-in-loop-index.ensures.value in
    let uuid : length c.args.uuid ≡ 16 = omega arith in
    record {
      size = length-set _ _ _ ∙ length-set _ _ _ ∙ loop.invariant.size;
      written =
          rw (two_set loop.text loop.index c.hex_digit.result c.hex_digit-in-loop-index.result (omega arith), digits_more c.args.uuid loop.index (omega arith), before, high, low) refl;
    }

pub returns : goal.returns
returns c =
    let loop = c.loop-index in
    let size = loop.invariant.size in
    let uuid : length c.args.uuid ≡ 16 = omega arith in
    let all : take (2 * loop.index) loop.text ≡ loop.text = take_all (2 * loop.index) loop.text (omega arith) in
    let bytes : take loop.index c.args.uuid ≡ c.args.uuid = take_all loop.index c.args.uuid (omega arith) in
    sym all ∙ loop.invariant.written ∙ ap digits bytes

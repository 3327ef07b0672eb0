use Rattle.std.proofs.Common.{◌≡◌, ◌+◌, ◌*◌, ◌/◌, ◌%◌, Some, length, map, take, get_or, arith, refl, ap, sym, ◌∙◌, length-set}
use Rattle.std.specs.Char.{to_ascii_lowercase}
use Rattle.std.proofs.lemmas.List.{length-map, map-append, take_all}
use Rattle.base62.specs.UuidString.{digits}
use Rattle.base62.proofs.UuidStringLemmas.{digits_set, digits_at, length-digits, bytes_set, bytes_replicate, digits_once, two_more}
use Rattle.base62.proofs.uuid_string.read_pairs.Goals as goal

pub returns-then-text-ne32-clause-accepted : goal.returns-then-text-ne32-clause-accepted
returns-then-text-ne32-clause-accepted c = λ uuid is e.
    let size = is.size in
    absurd (omega (arith, simp (length-map, length-digits) at (ap length e)))

pub loop-index-init : goal.loop-index-init
loop-index-init c = record { size = refl; bytes = bytes_replicate 16 0 (omega arith); read = refl }

pub returns-in_err-high-clause-accepted : goal.returns-in_err-high-clause-accepted
returns-in_err-high-clause-accepted c = λ uuid is e.
    let size = is.size in
    let k = c.loop-index.index in
    let fits = is.bytes k in
    absurd (c.hex_value.ensures.other (get_or uuid k 0 / 16) c.in_err-high.was (omega arith) (digits_at c.args.text.now uuid e k (omega arith)).0)

pub returns-in_err-low-clause-accepted : goal.returns-in_err-low-clause-accepted
returns-in_err-low-clause-accepted c = λ uuid is e.
    let size = is.size in
    let k = c.loop-index.index in
    let fits = is.bytes k in
    absurd (c.hex_value-in-loop-index.ensures.other (get_or uuid k 0 % 16) c.in_err-low.was (omega arith) (digits_at c.args.text.now uuid e k (omega arith)).1)

pub overflow_mul-uuid : goal.overflow_mul-uuid
overflow_mul-uuid c =
    let high = (c.hex_value.ensures.stored c.in_ok-high.high c.in_ok-high.was).0 in
    omega arith

pub overflow_add-uuid : goal.overflow_add-uuid
overflow_add-uuid c =
    let high = (c.hex_value.ensures.stored c.in_ok-high.high c.in_ok-high.was).0 in
    let low = (c.hex_value-in-loop-index.ensures.stored c.in_ok-low.low c.in_ok-low.was).0 in
    omega arith

pub loop-index-preserved : goal.loop-index-preserved
loop-index-preserved c =
    let loop = c.loop-index in
    let before = loop.invariant.read in
    let size = loop.invariant.size in
    let high = c.hex_value.ensures.stored c.in_ok-high.high c.in_ok-high.was in
    let low = c.hex_value-in-loop-index.ensures.stored c.in_ok-low.low c.in_ok-low.was in
    let byte = c.in_ok-high.high * 16 + c.in_ok-low.low in
    let upper : byte / 16 ≡ c.in_ok-high.high = omega (arith, high.0, low.0) in
    let lower : byte % 16 ≡ c.in_ok-low.low = omega (arith, high.0, low.0) in
    record {
      size = length-set _ _ _ ∙ size;
      bytes = bytes_set loop.uuid loop.index byte (omega (arith, high.0, low.0)) loop.invariant.bytes;
      read =
          rw (two_more c.args.text.now loop.index (omega arith), map-append, digits_set loop.uuid loop.index byte (omega arith), before, high.1, low.1, upper, lower) refl;
    }

pub returns-clause-stored : goal.returns-clause-stored
returns-clause-stored c = λ uuid is.
    let same : c.loop-index.uuid ≡ uuid = cc in
    rw (← same) (record { size = c.loop-index.invariant.size; bytes = c.loop-index.invariant.bytes })

pub returns-clause-accepted : goal.returns-clause-accepted
returns-clause-accepted c = λ uuid is e.
    let loop = c.loop-index in
    let size = loop.invariant.size in
    let text : take (2 * loop.index) c.args.text.now ≡ c.args.text.now = take_all (2 * loop.index) c.args.text.now (omega arith) in
    let bytes : take loop.index loop.uuid ≡ loop.uuid = take_all loop.index loop.uuid (omega arith) in
    let read : map to_ascii_lowercase c.args.text.now ≡ digits loop.uuid =
    ap (map to_ascii_lowercase) (sym text) ∙ loop.invariant.read ∙ ap digits bytes in
    ap Some (digits_once loop.uuid uuid loop.invariant.bytes is.bytes (sym read ∙ e))

use Rattle.std.proofs.Common.{take, refl, arith}
use Rattle.base62.specs.Parts.{HasRead}
use Rattle.base62.proofs.PartLemmas.{read_none, read_below, reads_on_cut}
use Rattle.base62.proofs.codec.decoder.read_up_to_10.Goals as goal
use Rattle.base62.proofs.codec.decoder.read_up_to_10.Goals.{then-part-ge5+in_ok-number, else-part-ge5}

pub read_up_to_5_more-requires-clause-number : goal.read_up_to_5_more-requires-clause-number
read_up_to_5_more-requires-clause-number c = elim c.if-part-ge5.branch [
  | then-part-ge5+in_ok-number w ↦
      rw w.number-is
      (read_below c.args.tables.now.letters w.split_at.result.0.now _ _ _ 5 c.requires.tables.alphabet w.in_ok-number.ensures (omega (arith, w.split_at.ensures.front_len)))
  | else-part-ge5 w ↦ rw w.number-is (omega arith)
]

pub returns : goal.returns
returns c =
    let B = c.args.tables.now.letters in
    let part = c.args.part.now in
    let cut = c.split_at-2.ensures in
    let done = c.if-part-ge5.done in
    let read : HasRead B (take done part) c.args.work.now c.if-part-ge5.work c.if-part-ge5.number = elim c.if-part-ge5.branch [
      | then-part-ge5+in_ok-number w ↦ rw (w.done-is, w.work-is, w.number-is, ← w.split_at.ensures.front) w.in_ok-number.ensures
      | else-part-ge5 w ↦ rw (w.done-is, w.work-is, w.number-is) (read_none B part c.args.work.now)
    ] in
    let more = c.read_up_to_5_more in
    reads_on_cut B part (take done part) done c.args.start c.args.work.now refl c.split_at-2.result.1.now _ _ _ more.result cut.back (omega (arith, cut.back_len)) read more.ensures

use Rattle.std.proofs.lemmas.Result.{err_from_is_err_and}
use Rattle.base62.proofs.PartLemmas.{fourth_refused, fifth_refused, five_read}
use Rattle.base62.proofs.codec.decoder.read_5.Goals as goal

pub returns-in_err-d : goal.returns-in_err-d
returns-in_err-d c =
    let p = err_from_is_err_and c.from_residual-in_err-d.result c.from_residual-in_err-d.ensures.1 in
    rw (p.1, p.2) (fourth_refused c.args.tables.now.letters c.args.part.now c.args.start c.args.work.now c.requires.five _ _ _ c.in_ok-a.a c.in_ok-b.b c.in_ok-c.c
    c.in_ok-a.ensures.read c.in_ok-b.ensures.read c.in_ok-c.ensures.read _ _ c.in_err-d.ensures.read)

pub returns-in_err-e : goal.returns-in_err-e
returns-in_err-e c =
    let p = err_from_is_err_and c.from_residual-in_err-e.result c.from_residual-in_err-e.ensures.1 in
    rw (p.1, p.2) (fifth_refused c.args.tables.now.letters c.args.part.now c.args.start c.args.work.now c.requires.five _ _ _ c.in_ok-a.a c.in_ok-b.b c.in_ok-c.c
    c.in_ok-a.ensures.read c.in_ok-b.ensures.read c.in_ok-c.ensures.read _ c.in_ok-d.d c.in_ok-d.ensures.read _ _ c.in_err-e.ensures.read)

pub returns : goal.returns
returns c =
    five_read c.args.tables.now.letters c.args.part.now c.args.start c.args.work.now c.requires.five _ _ _ c.in_ok-a.a c.in_ok-b.b c.in_ok-c.c
    c.in_ok-a.ensures.read c.in_ok-b.ensures.read c.in_ok-c.ensures.read _ c.in_ok-d.d c.in_ok-d.ensures.read _ c.in_ok-e.e c.in_ok-e.ensures.read

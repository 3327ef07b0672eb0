use Rattle.std.proofs.Common.{◌^◌, ◌<◌, inl, inr, arith}
use Rattle.std.proofs.lemmas.Bool.{cases_lt}
use Rattle.base62.proofs.PowerLemmas.{fits_more}
use Rattle.base62.proofs.FixedLemmas.{digit_count_fits, digit_count_some, digit_count_most}
use Rattle.base62.proofs.codec.encoder.write_number.Goals as goal

pub write_narrow-requires-clause-fits : goal.write_narrow-requires-clause-fits
write_narrow-requires-clause-fits c = digit_count_fits _ c.requires.tables.alphabet c.args.n c.args.count c.requires.count

pub write_narrow-requires-clause-least : goal.write_narrow-requires-clause-least
write_narrow-requires-clause-least c = digit_count_some _ c.requires.tables.alphabet c.args.n c.args.count c.requires.count

pub write_narrow-requires-clause-most : goal.write_narrow-requires-clause-most
write_narrow-requires-clause-most c =
    digit_count_most _ c.requires.tables.alphabet c.args.n c.args.count c.requires.count 11 (omega arith) (omega arith)

pub write_wide-requires-clause-fits : goal.write_wide-requires-clause-fits
write_wide-requires-clause-fits c = digit_count_fits _ c.requires.tables.alphabet c.args.n c.args.count c.requires.count

pub write_wide-requires-clause-least : goal.write_wide-requires-clause-least
write_wide-requires-clause-least c = elim (cases_lt c.args.count 11) [
  | inr more ↦ more
  | inl few ↦
      let fits = digit_count_fits _ c.requires.tables.alphabet c.args.n c.args.count c.requires.count in
      let ten : c.args.n < 62 ^ 10 = fits_more c.args.n c.args.count 10 fits (omega arith) in
      absurd (omega arith)
]

pub write_wide-requires-clause-most : goal.write_wide-requires-clause-most
write_wide-requires-clause-most c =
    digit_count_most _ c.requires.tables.alphabet c.args.n c.args.count c.requires.count 22 (omega arith) (omega (arith, c.ranges.n.fits))

use Rattle.base62.proofs.TableLemmas.{get_or-digits_of_bytes}
use Rattle.base62.proofs.alphabet.tables.Tables.digit.Goals as goal

pub returns-clause-digit : goal.returns-clause-digit
returns-clause-digit c = rw c.requires.digits (get_or-digits_of_bytes c.args.self.now.letters c.args.byte c.ranges.byte.fits)

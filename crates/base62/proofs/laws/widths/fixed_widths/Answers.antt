use Rattle.base62.proofs.WidthLemmas.{has_fixed, filled_up}
use Rattle.base62.proofs.laws.widths.fixed_widths.Goals as goal

pub returns-clause-exists : goal.returns-clause-exists
returns-clause-exists c = has_fixed

pub returns-clause-filled_up : goal.returns-clause-filled_up
returns-clause-filled_up c = filled_up

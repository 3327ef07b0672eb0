use Rattle.base62_cli.proofs.LineLemmas.{lines-nil, lines-ended, lines-open}
use Rattle.base62_cli.proofs.laws.lines_of_an_input.Goals as goal

pub returns-clause-empty : goal.returns-clause-empty
returns-clause-empty c = lines-nil

pub returns-clause-ended : goal.returns-clause-ended
returns-clause-ended c = lines-ended

pub returns-clause-rest : goal.returns-clause-rest
returns-clause-rest c = lines-open

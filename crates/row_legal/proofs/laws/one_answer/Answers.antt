use Rattle.row_legal.proofs.OneAnswer.{one_at_most, some_answer}
use Rattle.row_legal.proofs.laws.one_answer.Goals as goal

pub returns-clause-one : goal.returns-clause-one
returns-clause-one c = one_at_most

pub returns-clause-there : goal.returns-clause-there
returns-clause-there c = some_answer

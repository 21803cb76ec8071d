use Rattle.relax_table.proofs.Literal.{few_raises, few_lowers}
use Rattle.relax_table.proofs.laws.moves_are_few.Goals as goal

pub returns-clause-raises : goal.returns-clause-raises
returns-clause-raises c = few_raises

pub returns-clause-lowers : goal.returns-clause-lowers
returns-clause-lowers c = few_lowers

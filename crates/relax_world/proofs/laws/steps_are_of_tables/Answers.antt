use Rattle.relax_world.proofs.Schedules.{word_there, seen_there}
use Rattle.relax_world.proofs.laws.steps_are_of_tables.Goals as goal

pub returns-clause-word : goal.returns-clause-word
returns-clause-word c = word_there

pub returns-clause-seen : goal.returns-clause-seen
returns-clause-seen c = seen_there

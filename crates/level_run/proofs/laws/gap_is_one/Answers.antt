use Rattle.std.specs.List.{flat_map}
use Rattle.level_run.specs.Levels.{level_spreads}
use Rattle.level_run.proofs.Greatest.{greatest_there, greatest_once}
use Rattle.level_run.proofs.laws.gap_is_one.Goals as goal

pub returns-clause-there : goal.returns-clause-there
returns-clause-there c = λ levels. greatest_there (flat_map level_spreads levels)

pub returns-clause-one : goal.returns-clause-one
returns-clause-one c = λ levels. greatest_once (flat_map level_spreads levels)

-- The solves of a network: the rounds of its points, and what the two vectors of each promise.
use Rattle.std.specs.Prelude.{ℕ, ◌<◌, List}
use Rattle.area_cut.specs.declared.axis.Axis.{Axis}
use Rattle.net_model.specs.Values.{NetworkValue}
use Rattle.level_run.specs.declared.rounds.Rounds.{Rounds}
use Rattle.level_run.specs.Rounds.{rounds_in}
use Rattle.level_run.specs.declared.level.Level.{Level}
use Rattle.level_run.specs.Levels.{IsLevels, Encloses, solve_on, level_at, system_of}

-- The rounds of the network. In each round and on each axis the least and the greatest vector of its
-- system are fixed points of the rounded means, in order and with residuals below the total weights, and every exact solution
-- lies between them.
pub record AreSolved (network : NetworkValue) (rounds : Rounds) (levels : List Level) : Type 0 where
  pub levels_are : IsLevels network rounds levels
  pub enclosed : (axis : Axis) (k : ℕ) → k < rounds_in rounds → Encloses (system_of axis network levels k) (solve_on axis (level_at levels k))

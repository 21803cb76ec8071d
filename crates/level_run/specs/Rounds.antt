-- The rounds of a placement, and the levels that they belong to.
use Rattle.std.specs.Prelude.{ℕ, ◌+◌, ◌-◌, ◌*◌, ◌/◌, ◌≤◌}
use Rattle.level_run.specs.declared.rounds.TheConstants.{MOST_LEVELS, MOST_PASSES, MOST_ROUNDS}
use Rattle.level_run.specs.declared.rounds.Rounds.{Rounds}

-- how many rounds there are: each level is solved as often
abbrev pub rounds_in : Rounds → ℕ
rounds_in rounds = (rounds.levels + 1) * rounds.passes

-- the number of the last round
abbrev pub last_round : Rounds → ℕ
last_round rounds = rounds_in rounds - 1

-- the level that a round belongs to, where each is solved so often
abbrev pub level_of : ℕ → ℕ → ℕ
level_of passes r = r / passes

-- as many as may be asked for
pub record IsInLimits (rounds : Rounds) : Type 0 where
  pub levels : rounds.levels ≤ MOST_LEVELS
  pub some : 1 ≤ rounds.passes
  pub passes : rounds.passes ≤ MOST_PASSES
  pub few : rounds_in rounds ≤ MOST_ROUNDS

-- Rounds over so many points, and perhaps over more behind them.
use Rattle.std.specs.Prelude.{ℕ, ◌<◌, ◌≤◌, List, length, slice_index}
use Rattle.relax_system.specs.declared.valid.TheConstants.{MOST_COORDINATE}
use Rattle.level_run.specs.declared.level.Solve.{Solve}
use Rattle.level_run.specs.declared.level.Level.{Level}
use Rattle.level_run.specs.Levels.{level_at}

-- there is a mid for each of so many points, and each is a coordinate
pub record IsOver (points : ℕ) (solve : Solve) : Type 0 where
  pub all : points ≤ length solve.mid
  pub near : (p : ℕ) → p < points → slice_index solve.mid p ≤ MOST_COORDINATE

-- both solves of the round are over so many points
pub record IsBothOver (points : ℕ) (level : Level) : Type 0 where
  pub x : IsOver points level.x
  pub y : IsOver points level.y

-- there is a round of this number, and it is over so many points
pub record IsLastOver (points last : ℕ) (levels : List Level) : Type 0 where
  pub there : last < length levels
  pub over : IsBothOver points (level_at levels last)

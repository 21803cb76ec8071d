-- What the two equations of one point show.
use Rattle.std.specs.Prelude.{◌≡◌, ℕ, ◌+◌, ◌<◌, ◌≤◌, List, length, slice_index_or, max, Result, Ok, Err}
use Rattle.relax_system.specs.declared.points.Point.{Point}
use Rattle.fix_cert.specs.declared.reading.Reading.{Reading}
use Rattle.fix_cert.specs.declared.verdict.Side2.{Side2}
use Rattle.fix_cert.specs.Verdict.{HoldsLower, HoldsUpper, FailsAt, gap_at, lower_residual, upper_residual}

-- how far the first is above the second is from 0 to less than the total weight
pub record IsResidual (above below total : ℕ) : Type 0 where
  pub low : below ≤ above
  pub high : above < below + total

-- both equations of the point hold, with their gap and the greater of their residuals
pub record IsReading (points : List Point) (lo hi : List ℕ) (i : ℕ) (reading : Reading) : Type 0 where
  pub lower : HoldsLower points lo i
  pub upper : HoldsUpper points hi i
  pub gap : reading.gap ≡ gap_at lo hi i
  pub residual : reading.residual ≡ max (lower_residual points lo i) (upper_residual points hi i)

-- a reading, or the equation of the point that fails
abbrev pub IsFinding : List Point → List ℕ → List ℕ → ℕ → Result Reading Side2 → Type 0
IsFinding points lo hi i (Ok reading) = IsReading points lo hi i reading
IsFinding points lo hi i (Err side) = FailsAt points lo hi i side

-- what each point shows, in order
pub record AreFindings (points : List Point) (lo hi : List ℕ) (findings : List (Result Reading Side2)) : Type 0 where
  pub many : length findings ≡ length points
  pub each : (i : ℕ) (d : Result Reading Side2) → i < length points → IsFinding points lo hi i (slice_index_or findings i d)

-- Systems whose sums fit 64 bits.
use Rattle.std.specs.Prelude.{ℕ, ◌*◌, ◌^◌, ◌<◌, List, length, Bool, IsTrue}
use Rattle.relax_system.specs.declared.points.Point.{Point}
use Rattle.relax_system.specs.System.{point_at, total_weight, IsValid}

-- no sum of the point's mean is past 64 bits
abbrev pub IsNarrowPoint : Point → Type 0
IsNarrowPoint p = total_weight p * p.hi < 2 ^ 64

-- no sum of a mean is past 64 bits
abbrev pub IsNarrow : List Point → Type 0
IsNarrow points = (i : ℕ) → i < length points → IsNarrowPoint (point_at points i)

-- the points of a system, and a flag that may stand only where its sums fit
pub record IsSystem (points : List Point) (narrow : Bool) : Type 0 where
  pub valid : IsValid points
  pub fits : IsTrue narrow → IsNarrow points

-- Gauss-Seidel's single-point equations, rounded to whole numbers.
use Rattle.std.specs.Prelude.{◌≡◌, ℕ, ◌+◌, ◌*◌, ◌/◌, ◌<◌, ◌≤◌, List, length, sum_by, slice_index}
use Rattle.std.specs.Int.{div_ceil}
use Rattle.relax_system.specs.declared.points.Near.{Near}
use Rattle.relax_system.specs.declared.points.Point.{Point}
use Rattle.relax_system.specs.System.{point_at, total_weight}

-- the sum of weight times coordinate over the neighbours
abbrev pub weighted_sum : List Near → List ℕ → ℕ
weighted_sum near v = sum_by (λ n. n.weight * slice_index v n.point) near

-- the same over neighbours and constants
abbrev pub pull : Point → List ℕ → ℕ
pull p v = weighted_sum p.near v + p.anchored

-- the rounded-down mean of a point
abbrev pub floor_mean : List Point → ℕ → List ℕ → ℕ
floor_mean points i v = pull (point_at points i) v / total_weight (point_at points i)

-- the rounded-up mean of a point
abbrev pub ceil_mean : List Point → ℕ → List ℕ → ℕ
ceil_mean points i v = div_ceil (pull (point_at points i) v) (total_weight (point_at points i))

-- one entry per point, each in its box
pub record InBoxes (points : List Point) (v : List ℕ) : Type 0 where
  pub all : length v ≡ length points
  pub low : (i : ℕ) → i < length points → (point_at points i).lo ≤ slice_index v i
  pub high : (i : ℕ) → i < length points → slice_index v i ≤ (point_at points i).hi

-- each entry is at most the other's; past the end both are 0
abbrev pub AtMost : List ℕ → List ℕ → Type 0
AtMost u v = (i : ℕ) → slice_index u i ≤ slice_index v i

-- no rounded-down mean is above its entry
abbrev pub IsPreFixed : List Point → List ℕ → Type 0
IsPreFixed points v = (i : ℕ) → i < length points → floor_mean points i v ≤ slice_index v i

-- no rounded-up mean is below its entry
abbrev pub IsPostFixed : List Point → List ℕ → Type 0
IsPostFixed points v = (i : ℕ) → i < length points → slice_index v i ≤ ceil_mean points i v

-- each entry is its rounded-down mean
abbrev pub IsFloorFixed : List Point → List ℕ → Type 0
IsFloorFixed points v = (i : ℕ) → i < length points → slice_index v i ≡ floor_mean points i v

-- each entry is its rounded-up mean
abbrev pub IsCeilFixed : List Point → List ℕ → Type 0
IsCeilFixed points v = (i : ℕ) → i < length points → slice_index v i ≡ ceil_mean points i v

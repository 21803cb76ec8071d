-- What a certificate of two vectors says: that they are fixed points, or which equation is the first that fails.
use Rattle.std.specs.Prelude.{◌≡◌, ◌⊎◌, ℕ, ◌-◌, ◌*◌, ◌<◌, ◌≤◌, List, length, slice_index, ℤ}
use Rattle.pad_reach.specs.Chain.{HasChain}
use Rattle.relax_system.specs.declared.points.Point.{Point}
use Rattle.relax_system.specs.System.{point_at, total_weight, joints_of}
use Rattle.relax_system.specs.Means.{pull, floor_mean, ceil_mean, AtMost, IsFloorFixed, IsCeilFixed}
use Rattle.relax_system.specs.Exact.{IsExact, IsBetween, HasLowerResiduals, HasUpperResiduals}
use Rattle.fix_cert.specs.declared.verdict.Verdict.{Verdict}
use Rattle.fix_cert.specs.declared.verdict.Verdict.TheVariants.{Encloses, Broken}
use Rattle.fix_cert.specs.declared.verdict.Side2.{Side2}
use Rattle.fix_cert.specs.declared.verdict.Side2.TheVariants.{Lower, Upper}

-- the lower entry is its rounded-down mean
abbrev pub HoldsLower : List Point → List ℕ → ℕ → Type 0
HoldsLower points lo i = slice_index lo i ≡ floor_mean points i lo

-- the upper entry is its rounded-up mean
abbrev pub HoldsUpper : List Point → List ℕ → ℕ → Type 0
HoldsUpper points hi i = slice_index hi i ≡ ceil_mean points i hi

-- both equations of each point before hold
abbrev pub HoldBefore : List Point → List ℕ → List ℕ → ℕ → Type 0
HoldBefore points lo hi i = (j : ℕ) → j < i → HoldsLower points lo j × HoldsUpper points hi j

-- the equation of the side at the point, of which the lower stands first
abbrev pub FailsAt : List Point → List ℕ → List ℕ → ℕ → Side2 → Type 0
FailsAt points lo hi i Lower = HoldsLower points lo i → ⊥
FailsAt points lo hi i Upper = HoldsLower points lo i × (HoldsUpper points hi i → ⊥)

-- the equation is the first that fails
pub record IsFirstBroken (points : List Point) (lo hi : List ℕ) (i : ℕ) (side : Side2) : Type 0 where
  pub there : i < length points
  pub before : HoldBefore points lo hi i
  pub fails : FailsAt points lo hi i side

-- how far the two entries are apart, 0 where the upper isn't above the lower
abbrev pub gap_at : List ℕ → List ℕ → ℕ → ℕ
gap_at lo hi i = slice_index hi i - slice_index lo i

-- what the rounded-down equation leaves
abbrev pub lower_residual : List Point → List ℕ → ℕ → ℕ
lower_residual points lo i = pull (point_at points i) lo - total_weight (point_at points i) * slice_index lo i

-- what the rounded-up equation leaves
abbrev pub upper_residual : List Point → List ℕ → ℕ → ℕ
upper_residual points hi i = total_weight (point_at points i) * slice_index hi i - pull (point_at points i) hi

-- the greatest of the numbers f i for i below n, 0 where there is none
pub record IsMost (n : ℕ) (f : ℕ → ℕ) (most : ℕ) : Type 0 where
  pub above : (i : ℕ) → i < n → f i ≤ most
  pub reached : (most ≡ 0) ⊎ ((i : ℕ) × (i < n) × (f i ≡ most))

-- the greatest of the numbers of two kinds
pub record IsMostOfBoth (n : ℕ) (f g : ℕ → ℕ) (most : ℕ) : Type 0 where
  pub above_first : (i : ℕ) → i < n → f i ≤ most
  pub above_second : (i : ℕ) → i < n → g i ≤ most
  pub reached : (most ≡ 0) ⊎ ((i : ℕ) × (i < n) × ((f i ≡ most) ⊎ (g i ≡ most)))

-- both vectors are fixed points, with the greatest gap and the greatest residual
pub record IsEnclosing (points : List Point) (lo hi : List ℕ) (gap worst : ℕ) : Type 0 where
  pub lower : IsFloorFixed points lo
  pub upper : IsCeilFixed points hi
  pub widest : IsMost (length points) (gap_at lo hi) gap
  pub lower_residuals : HasLowerResiduals points lo
  pub upper_residuals : HasUpperResiduals points hi
  pub worst_residual : IsMostOfBoth (length points) (lower_residual points lo) (upper_residual points hi) worst

-- exactly what the verdict says
abbrev pub IsVerdict : List Point → List ℕ → List ℕ → Verdict → Type 0
IsVerdict points lo hi (Encloses gap worst) = IsEnclosing points lo hi gap worst
IsVerdict points lo hi (Broken point side) = IsFirstBroken points lo hi point side

-- the vectors are in order and enclose every exact solution
pub record EnclosesExact (points : List Point) (lo hi : List ℕ) : Type 0 where
  pub ordered : AtMost lo hi
  pub between : (d : ℕ) (z : List ℤ) → IsExact points d z → IsBetween lo hi d z

-- an enclosing verdict on a system with a chain from each point
abbrev pub IsEnclosure : List Point → List ℕ → List ℕ → Verdict → Type 0
IsEnclosure points lo hi (Encloses gap worst) = ((p : ℕ) → p < length points → HasChain (joints_of points) p) → EnclosesExact points lo hi
IsEnclosure points lo hi (Broken point side) = Unit {0}

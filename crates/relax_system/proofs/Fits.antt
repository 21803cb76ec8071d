-- The sums of a mean fit their types.
use Rattle.std.proofs.Common.{◌≡◌, ℕ, ◌*◌, ◌^◌, ◌<◌, ◌≤◌, List, length, min, refl, ⊎_elim, arith}
use Rattle.std.proofs.Math.Nat.{mul-le-mul_left, mul-le-mul_right}
use Rattle.std.proofs.lemmas.Bool.{cases_lt}
use Rattle.relax_system.specs.declared.side.Side.{Side}
use Rattle.relax_system.specs.declared.side.Side.TheVariants.{Floor, Ceil}
use Rattle.relax_system.specs.declared.points.Point.{Point}
use Rattle.relax_system.specs.declared.valid.TheConstants.{MOST_COORDINATE}
use Rattle.relax_system.specs.System.{total_weight, point_at, IsValid}
use Rattle.relax_system.specs.Means.{InBoxes, pull}
use Rattle.relax_system.specs.Sides.{mean_of}
use Rattle.relax_system.specs.Rounding.{rounded}
use Rattle.relax_system.specs.Forms.Narrow.{IsNarrow}
use Rattle.relax_system.proofs.Pulls.{pull-high}

-- a product with a weight that is cut off at m is below m only where the whole product is
pub below_cut : (m w x : ℕ) → min w m * x < m → w * x < m
below_cut m w x h = ⊎_elim
    (λ (cut : m < w). ⊎_elim
    (λ (some : 0 < x). absurd (omega (arith, mul-le-mul_left (min w m) some)))
    (λ (none : x ≤ 0). let zero : x ≡ 0 = omega arith in rw zero (omega arith))
    (cases_lt 0 x))
    (λ (all : w ≤ m). let same : min w m ≡ w = omega arith in rw same at h)
    (cases_lt m w)

pub pull_light : (points : List Point) (i : ℕ) (v : List ℕ) → IsValid points → i < length points → InBoxes points v → pull (point_at points i) v ≤ total_weight (point_at points i) * MOST_COORDINATE
pull_light points i v valid there boxes =
    omega (arith, pull-high points i (point_at points i) v (valid.each i there) refl boxes, mul-le-mul_left (total_weight (point_at points i)) (valid.each i there).limit)

pub pull_wide : (points : List Point) (i : ℕ) (v : List ℕ) → IsValid points → i < length points → InBoxes points v → pull (point_at points i) v < 2 ^ 128
pull_wide points i v valid there boxes =
    omega (arith, pull_light points i v valid there boxes, mul-le-mul_right MOST_COORDINATE (valid.each i there).light)

pub pull_narrow : (points : List Point) (i : ℕ) (v : List ℕ) → IsValid points → IsNarrow points → i < length points → InBoxes points v → pull (point_at points i) v < 2 ^ 64
pull_narrow points i v valid narrow there boxes =
    omega (arith, pull-high points i (point_at points i) v (valid.each i there) refl boxes, narrow i there)

pub rounded-pull : (side : Side) (points : List Point) (i : ℕ) (v : List ℕ) → rounded side (pull (point_at points i) v) (total_weight (point_at points i)) ≡ mean_of side points i v
rounded-pull Floor points i v = refl
rounded-pull Ceil points i v = refl

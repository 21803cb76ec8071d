-- What a rounded equation leaves, and that two vectors with small residuals are in order.
use Rattle.std.proofs.Common.{◌≡◌, ℕ, ◌+◌, ◌*◌, ◌/◌, ◌<◌, ◌≤◌, List, length, ⊎_elim, arith}
use Rattle.std.specs.List.{slice_index}
use Rattle.std.specs.Int.{div_ceil}
use Rattle.std.proofs.lemmas.Grind.{div_ceil_times}
use Rattle.std.proofs.lemmas.List.{get_or_past}
use Rattle.std.proofs.lemmas.Bool.{cases_lt}
use Rattle.pad_reach.specs.Chain.{HasChain}
use Rattle.relax_system.specs.declared.points.Point.{Point}
use Rattle.relax_system.specs.System.{IsValid, joints_of}
use Rattle.relax_system.specs.Means.{AtMost, InBoxes, IsFloorFixed, IsCeilFixed}
use Rattle.relax_system.specs.Exact.{HasLowerResiduals, HasUpperResiduals}
use Rattle.relax_system.proofs.Maximum.{compared}

floor_residual : (x k q : ℕ) → 1 ≤ k → q ≡ x / k → (k * q ≤ x) × (x < k * q + k)
floor_residual x k q h e = rw e (omega arith, omega arith)

ceil_residual : (x k q : ℕ) → 1 ≤ k → q ≡ div_ceil x k → (x ≤ k * q) × (k * q < x + k)
ceil_residual x k q h e = rw e (omega (arith, (div_ceil_times x k h).0), omega (arith, (div_ceil_times x k h).1))

pub lower_from_fixed : (points : List Point) (v : List ℕ) → IsValid points → IsFloorFixed points v → HasLowerResiduals points v
lower_from_fixed points v valid fixed i there = floor_residual _ _ _ (valid.each i there).joined (fixed i there)

pub upper_from_fixed : (points : List Point) (v : List ℕ) → IsValid points → IsCeilFixed points v → HasUpperResiduals points v
upper_from_fixed points v valid fixed i there = ceil_residual _ _ _ (valid.each i there).joined (fixed i there)

-- a quotient rounded down is at most one rounded up
pub floor-le-ceil : (x k : ℕ) → x / k ≤ div_ceil x k
floor-le-ceil x k = omega arith

pub ordered : (points : List Point) (lo hi : List ℕ) → IsValid points → ((p : ℕ) → p < length points → HasChain (joints_of points) p)
    → InBoxes points lo → HasLowerResiduals points lo → HasUpperResiduals points hi → AtMost lo hi
ordered points lo hi valid chains boxes lower upper i = ⊎_elim
    (λ there. compared points (slice_index lo) (slice_index hi) valid chains (λ k in'. omega (arith, (lower k in').0, (upper k in').0)) i there)
    (λ past. rw (get_or_past lo i 0 (omega (arith, boxes.all))) (omega arith))
    (cases_lt i (length points))

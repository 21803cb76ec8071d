-- Vectors with small residuals enclose the exact solutions.
use Rattle.std.proofs.Common.{◌≡◌, ℕ, ◌+◌, ◌*◌, ◌<◌, ◌≤◌, List, [], ◌∷◌, length, arith, ℤ}
use borrow.Author.Differences.{up, down}
use Rattle.std.specs.List.{slice_index}
use Rattle.std.proofs.Math.Nat.{mul-le-mul_left}
use Rattle.std.proofs.lemmas.Int.{ints}
use Rattle.pad_reach.specs.Chain.{HasChain}
use Rattle.relax_system.specs.declared.points.Near.{Near}
use Rattle.relax_system.specs.declared.points.Point.{Point}
use Rattle.relax_system.specs.System.{total_weight, point_at, IsValid, joints_of}
use Rattle.relax_system.specs.Exact.{signed_at, IsExact, IsBetween, HasLowerResiduals, HasUpperResiduals}
use Rattle.relax_system.proofs.Maximum.{weigh, weigh-cons, compared}
use Rattle.relax_system.proofs.Signed.{product, sums}

weigh-scaled : (near : List Near) (d : ℕ) (a b : ℕ → ℕ) → weigh near (λ i. d * a i + b i) ≡ d * weigh near a + weigh near b
weigh-scaled [] d a b = omega arith
weigh-scaled (n ∷ near) d a b =
    rw (weigh-cons n near (λ i. d * a i + b i), weigh-cons n near a, weigh-cons n near b) (omega (arith, weigh-scaled near d a b))

-- an exact equation, in differences
exact : (points : List Point) (d : ℕ) (z : List ℤ) → IsExact points d z → (i : ℕ) → i < length points
    → total_weight (point_at points i) * up (signed_at z i) + weigh (point_at points i).near (λ j. down (signed_at z j))
    ≡ total_weight (point_at points i) * down (signed_at z i) + weigh (point_at points i).near (λ j. up (signed_at z j)) + d * (point_at points i).anchored
exact points d z h i there =
    omega (arith, ints, h.each i there, product (total_weight (point_at points i)) (signed_at z i), sums (point_at points i).near z)

from_below : (points : List Point) (lo : List ℕ) (d : ℕ) (z : List ℤ) → IsValid points → ((p : ℕ) → p < length points → HasChain (joints_of points) p)
    → HasLowerResiduals points lo → IsExact points d z → (i : ℕ) → i < length points → d * slice_index lo i + down (signed_at z i) ≤ up (signed_at z i)
from_below points lo d z valid chains small h =
    compared points (λ i. d * slice_index lo i + down (signed_at z i)) (λ i. up (signed_at z i)) valid chains
    (λ i there. rw (weigh-scaled (point_at points i).near d (slice_index lo) (λ j. down (signed_at z j))) (omega (arith, exact points d z h i there, mul-le-mul_left d (small i there).0)))

from_above : (points : List Point) (hi : List ℕ) (d : ℕ) (z : List ℤ) → IsValid points → ((p : ℕ) → p < length points → HasChain (joints_of points) p)
    → HasUpperResiduals points hi → IsExact points d z → (i : ℕ) → i < length points → up (signed_at z i) ≤ d * slice_index hi i + down (signed_at z i)
from_above points hi d z valid chains small h =
    compared points (λ i. up (signed_at z i)) (λ i. d * slice_index hi i + down (signed_at z i)) valid chains
    (λ i there. rw (weigh-scaled (point_at points i).near d (slice_index hi) (λ j. down (signed_at z j))) (omega (arith, exact points d z h i there, mul-le-mul_left d (small i there).0)))

pub between : (points : List Point) (lo hi : List ℕ) (d : ℕ) (z : List ℤ) → IsValid points → ((p : ℕ) → p < length points → HasChain (joints_of points) p)
    → HasLowerResiduals points lo → HasUpperResiduals points hi → IsExact points d z → IsBetween lo hi d z
between points lo hi d z valid chains lower upper h i in' =
    let there : i < length points = omega (arith, h.all) in
    (omega (arith, ints, from_below points lo d z valid chains lower h i there), omega (arith, ints, from_above points hi d z valid chains upper h i there))

-- The pull on a point: it grows with the vector, and lies between the total weight times the ends of the box.
use Rattle.std.proofs.Common.{◌≡◌, ℕ, ◌*◌, ◌≤◌, List, [], ◌∷◌, arith}
use Rattle.std.specs.List.{slice_index, All, AllByRecursion}
use Rattle.std.proofs.Math.Nat.{add-mul, mul-le-mul_left}
use Rattle.std.proofs.lemmas.List.Sums.{sum_by-cons, sum_by-le-sum_by}
use Rattle.std.proofs.lemmas.List.Elements.{All-weaker, recursion_from_All}
use Rattle.relax_system.specs.declared.points.Near.{Near}
use Rattle.relax_system.specs.declared.points.Point.{Point}
use Rattle.relax_system.specs.System.{near_weight, total_weight, point_at, IsValidNear, IsValidPoint}
use Rattle.relax_system.specs.Means.{AtMost, InBoxes, weighted_sum, pull}

pub weighted_sum-mono : (near : List Near) (u v : List ℕ) → AtMost u v → weighted_sum near u ≤ weighted_sum near v
weighted_sum-mono near u v h = sum_by-le-sum_by _ _ near (λ n. mul-le-mul_left n.weight (h n.point))

pub pull-mono : (p : Point) (u v : List ℕ) → AtMost u v → pull p u ≤ pull p v
pull-mono p u v h = omega (arith, weighted_sum-mono p.near u v h)

weighted_sum-low : (near : List Near) (v : List ℕ) (m : ℕ) → AllByRecursion (λ (n : Near). m ≤ slice_index v n.point) near → near_weight near * m ≤ weighted_sum near v
weighted_sum-low [] v m h = omega arith
weighted_sum-low (n ∷ near) v m h =
    rw (sum_by-cons (λ (n : Near). n.weight) n near, sum_by-cons (λ (n : Near). n.weight * slice_index v n.point) n near, add-mul) (omega (arith, weighted_sum-low near v m h.1, mul-le-mul_left n.weight h.0))

weighted_sum-high : (near : List Near) (v : List ℕ) (m : ℕ) → AllByRecursion (λ (n : Near). slice_index v n.point ≤ m) near → weighted_sum near v ≤ near_weight near * m
weighted_sum-high [] v m h = omega arith
weighted_sum-high (n ∷ near) v m h =
    rw (sum_by-cons (λ (n : Near). n.weight) n near, sum_by-cons (λ (n : Near). n.weight * slice_index v n.point) n near, add-mul) (omega (arith, weighted_sum-high near v m h.1, mul-le-mul_left n.weight h.0))

-- the entry of a neighbour lies in the box of the point
above_low : (points : List Point) (i : ℕ) (v : List ℕ) → InBoxes points v → (n : Near) → IsValidNear points i n → (point_at points i).lo ≤ slice_index v n.point
above_low points i v h n valid = omega (arith, h.low n.point valid.there, valid.same_lo)

below_high : (points : List Point) (i : ℕ) (v : List ℕ) → InBoxes points v → (n : Near) → IsValidNear points i n → slice_index v n.point ≤ (point_at points i).hi
below_high points i v h n valid = omega (arith, h.high n.point valid.there, valid.same_hi)

pub pull-low : (points : List Point) (i : ℕ) (p : Point) (v : List ℕ) → IsValidPoint points i p → p ≡ point_at points i → InBoxes points v → total_weight p * p.lo ≤ pull p v
pull-low points i p v valid e h =
    let each : All (λ (n : Near). p.lo ≤ slice_index v n.point) p.near = All-weaker (IsValidNear points i) (λ (n : Near). p.lo ≤ slice_index v n.point) (λ n good. rw e (above_low points i v h n good)) p.near valid.near in
    rw add-mul (omega (arith, weighted_sum-low p.near v p.lo (recursion_from_All _ p.near each), valid.anchored_low))

pub pull-high : (points : List Point) (i : ℕ) (p : Point) (v : List ℕ) → IsValidPoint points i p → p ≡ point_at points i → InBoxes points v → pull p v ≤ total_weight p * p.hi
pull-high points i p v valid e h =
    let each : All (λ (n : Near). slice_index v n.point ≤ p.hi) p.near = All-weaker (IsValidNear points i) (λ (n : Near). slice_index v n.point ≤ p.hi) (λ n good. rw e (below_high points i v h n good)) p.near valid.near in
    rw add-mul (omega (arith, weighted_sum-high p.near v p.hi (recursion_from_All _ p.near each), valid.anchored_high))

-- Vectors on the way to the extremal one: within the boxes, and before each quiet vector of the boxes.
use Rattle.std.proofs.Common.{◌≡◌, ◌≢◌, ℕ, ◌<◌, ◌≤◌, List, [], ◌∷◌, length, suc, set, ⊎_elim, arith}
use Rattle.std.specs.List.{sum, sum_by, slice_index}
use Rattle.std.proofs.lemmas.List.{length-set, length-map, get_or-set_same, get_or-set_other, get_or-map, get_or_past}
use Rattle.std.proofs.lemmas.List.Sums.{sum_by-cons, sum_by-set}
use Rattle.std.proofs.lemmas.Bool.{cases_eq, cases_lt}
use Rattle.relax_system.specs.declared.side.Side.{Side}
use Rattle.relax_system.specs.declared.side.Side.TheVariants.{Floor, Ceil}
use Rattle.relax_system.specs.declared.points.Point.{Point}
use Rattle.relax_system.specs.System.{point_at, no_point, IsValid}
use Rattle.relax_system.specs.Means.{InBoxes}
use Rattle.relax_system.specs.Sides.{Before, mean_of, start_of, starts_of}
use Rattle.relax_system.specs.Forms.Way.{IsOnWay, room}
use Rattle.relax_system.proofs.SideMeans.{Before_refl, Before_trans, mean-low, mean-high, mean-mono}

-- what holds of the entry that was set, and of each other one
pub at_set : (P : ℕ → ℕ → Type 0) (v : List ℕ) (i x : ℕ) → i < length v → P i x → ((k : ℕ) → k ≢ i → P k (slice_index v k)) → (k : ℕ) → P k (slice_index (set v i x) k)
at_set P v i x there here others k =
    ⊎_elim (λ same. rw same (rw (get_or-set_same v i x 0 there) here)) (λ other. rw (get_or-set_other v i k x 0 other) (others k other)) (cases_eq k i)

pub InBoxes-set : (points : List Point) (v : List ℕ) (i x : ℕ) → InBoxes points v → i < length points → (point_at points i).lo ≤ x → x ≤ (point_at points i).hi → InBoxes points (set v i x)
InBoxes-set points v i x h there low high =
    let inside : i < length v = omega (arith, h.all) in
    record {
      all = omega (arith, length-set v i x, h.all);
      low = λ k in'. at_set (λ k y. k < length points → (point_at points k).lo ≤ y) v i x inside (λ _. low) (λ k _ in'. h.low k in') k in';
      high = λ k in'. at_set (λ k y. k < length points → y ≤ (point_at points k).hi) v i x inside (λ _. high) (λ k _ in'. h.high k in') k in';
    }

-- to put one entry at its mean keeps the way
pub IsOnWay-set : (side : Side) (points : List Point) (v : List ℕ) (i : ℕ) → IsValid points → IsOnWay side points v → i < length points → IsOnWay side points (set v i (mean_of side points i v))
IsOnWay-set side points v i valid h there = record {
  in_boxes = InBoxes-set points v i _ h.in_boxes there (mean-low side points i v valid there h.in_boxes) (mean-high side points i v valid there h.in_boxes);
  first = λ u boxes quiet. at_set (λ k y. Before side y (slice_index u k)) v i _ (omega (arith, h.in_boxes.all))
      (Before_trans side _ _ _ (mean-mono side points i v u valid there (h.first u boxes quiet)) (quiet i there))
      (λ k _. h.first u boxes quiet k);
}

pub start-low : (side : Side) (p : Point) → p.lo ≤ p.hi → p.lo ≤ start_of side p
start-low Floor p h = omega arith
start-low Ceil p h = omega arith

pub start-high : (side : Side) (p : Point) → p.lo ≤ p.hi → start_of side p ≤ p.hi
start-high Floor p h = omega arith
start-high Ceil p h = omega arith

pub start_before : (side : Side) (p : Point) (x : ℕ) → p.lo ≤ x → x ≤ p.hi → Before side (start_of side p) x
start_before Floor p x low high = low
start_before Ceil p x low high = high

InBoxes_start : (side : Side) (points : List Point) → IsValid points → InBoxes points (starts_of side points)
InBoxes_start side points valid = record {
  all = length-map points (start_of side);
  low = λ i there. rw (get_or-map (start_of side) points i no_point 0 there) (start-low side _ (valid.each i there).ordered);
  high = λ i there. rw (get_or-map (start_of side) points i no_point 0 there) (start-high side _ (valid.each i there).ordered);
}

-- the way's beginning
pub IsOnWay_start : (side : Side) (points : List Point) → IsValid points → IsOnWay side points (starts_of side points)
IsOnWay_start side points valid = record {
  in_boxes = InBoxes_start side points valid;
  first = λ u boxes _ i. ⊎_elim
      (λ there. rw (get_or-map (start_of side) points i no_point 0 there) (start_before side (point_at points i) _ (boxes.low i there) (boxes.high i there)))
      (λ past. rw (get_or_past (starts_of side points) i 0 (omega (arith, length-map points (start_of side))), get_or_past u i 0 (omega (arith, boxes.all))) (Before_refl side 0))
      (cases_lt i (length points));
}

sum-high : (points : List Point) (v : List ℕ) → length v ≡ length points → ((i : ℕ) → i < length points → slice_index v i ≤ (point_at points i).hi) → sum v ≤ sum_by (λ p. p.hi) points
sum-high [] [] e h = omega arith
sum-high [] (x ∷ v) e h = absurd (omega arith)
sum-high (p ∷ points) [] e h = absurd (omega arith)
sum-high (p ∷ points) (x ∷ v) e h =
    let first : x ≤ p.hi = h 0 (omega arith) in
    let rest : sum v ≤ sum_by (λ p. p.hi) points = sum-high points v (omega arith) (λ i there. h (suc i) (omega arith)) in
    omega (arith, sum_by-cons (λ (y : ℕ). y) x v, sum_by-cons (λ (p : Point). p.hi) p points)

-- a step past an entry leaves less room
pub room-set : (side : Side) (points : List Point) (v : List ℕ) (i x : ℕ) → InBoxes points (set v i x) → i < length v → Before side (slice_index v i) x → slice_index v i ≢ x → room side points (set v i x) < room side points v
room-set Floor points v i x boxes there further other =
    omega (arith, sum_by-set (λ (y : ℕ). y) v i x 0 there, sum-high points (set v i x) boxes.all boxes.high)
room-set Ceil points v i x boxes there further other =
    omega (arith, sum_by-set (λ (y : ℕ). y) v i x 0 there)

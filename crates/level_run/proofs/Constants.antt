-- The constants of a point lie in its region's range.
use Rattle.std.proofs.Common.{◌≡◌, ℕ, ◌+◌, ◌*◌, ◌≤◌, not, List, [], ◌∷◌, refl, ◌∙◌, ap, arith}
use Rattle.std.specs.Prelude.{map, sum_by}
use Rattle.std.proofs.Math.Nat.{mul-le-mul_left, add-mul}
use Rattle.std.proofs.lemmas.List.Sums.{sum_by-cons}
use Rattle.std.proofs.lemmas.List.Filters.{sum_by-filter_both}
use Rattle.relax_system.specs.declared.valid.TheConstants.{MOST_COORDINATE}
use Rattle.area_cut.specs.declared.axis.Axis.{Axis}
use Rattle.area_cut.specs.declared.axis.Axis.TheVariants.{X, Y}
use Rattle.area_cut.specs.declared.region.Region.{Region}
use Rattle.area_cut.specs.Regions.{IsGood, IsWithin, low_end, high_end}
use Rattle.net_model.specs.declared.parts.Near.{Near}
use Rattle.net_model.specs.declared.parts.FixedPin.{FixedPin}
use Rattle.relax_system.specs.declared.points.Near.{Near as Neighbour}
use Rattle.relax_system.specs.System.{near_weight}
use Rattle.level_run.specs.Forms.Projection.{IsRange}
use Rattle.level_run.specs.LevelSystem.{clamped, is_inside, inside, outside, as_neighbour, near_pull, pin_pull, stand_of, coordinate, place_of}

pub range_of : (axis : Axis) (region : Region) → IsGood region → IsWithin MOST_COORDINATE region → IsRange axis region
range_of X region good within = record { ordered = good.wide; limit = within.x }
range_of Y region good within = record { ordered = good.high; limit = within.y }

pub clamped_low : (axis : Axis) (region : Region) (at : ℕ) → low_end axis region ≤ clamped axis region at
clamped_low axis region at = omega arith

pub clamped_high : (axis : Axis) (region : Region) (at : ℕ) → IsRange axis region → clamped axis region at ≤ high_end axis region
clamped_high axis region at range = let ordered = range.ordered in omega arith

-- a sum of weight times place, where each place lies in a range
pub record IsPull (weight bottom top pull : ℕ) : Type 0 where
  pub low : weight * bottom ≤ pull
  pub high : pull ≤ weight * top

pulls : {X : Type 0} (w at : X → ℕ) (low high : ℕ) (xs : List X) → ((x : X) → low ≤ at x) → ((x : X) → at x ≤ high) → IsPull (sum_by w xs) low high (sum_by (λ x. w x * at x) xs)
pulls w at low high [] below above = record { low = omega arith; high = omega arith }
pulls w at low high (x ∷ xs) below above =
    let rest = pulls w at low high xs below above in
    let weight = sum_by-cons w x xs in
    let sum = sum_by-cons (λ y. w y * at y) x xs in
    let product = λ (end : ℕ). ap (λ (v : ℕ). v * end) weight ∙ add-mul (w x) (sum_by w xs) end in
    record {
      low = omega (arith, sum, rest.low, product low, mul-le-mul_left (w x) (below x));
      high = omega (arith, sum, rest.high, product high, mul-le-mul_left (w x) (above x));
    }

pub near_pulls : (axis : Axis) (regions : List Region) (mids : List ℕ) (region : Region) (near : List Near) → IsRange axis region → IsPull (sum_by (λ n. n.weight) near) (low_end axis region) (high_end axis region) (near_pull axis regions mids region near)
near_pulls axis regions mids region near range =
    pulls (λ (n : Near). n.weight) (λ (n : Near). clamped axis region (stand_of axis regions mids n.point)) (low_end axis region) (high_end axis region) near
    (λ n. clamped_low axis region (stand_of axis regions mids n.point)) (λ n. clamped_high axis region (stand_of axis regions mids n.point) range)

pub pin_pulls : (axis : Axis) (region : Region) (pins : List FixedPin) → IsRange axis region → IsPull (sum_by (λ pin. pin.weight) pins) (low_end axis region) (high_end axis region) (pin_pull axis region pins)
pin_pulls axis region pins range =
    pulls (λ (pin : FixedPin). pin.weight) (λ (pin : FixedPin). clamped axis region (coordinate (place_of axis pin))) (low_end axis region) (high_end axis region) pins
    (λ pin. clamped_low axis region (coordinate (place_of axis pin))) (λ pin. clamped_high axis region (coordinate (place_of axis pin)) range)

pub neighbours_weight : (near : List Near) → near_weight (map as_neighbour near) ≡ sum_by (λ near. near.weight) near
neighbours_weight [] = refl
neighbours_weight (n ∷ near) = omega (arith, sum_by-cons (λ (m : Neighbour). m.weight) (as_neighbour n) (map as_neighbour near), sum_by-cons (λ (m : Near). m.weight) n near, neighbours_weight near)

-- the weights in the region and outside are all weights
pub weights_split : (regions : List Region) (p : ℕ) (near : List Near) → sum_by (λ n. n.weight) (inside regions p near) + sum_by (λ n. n.weight) (outside regions p near) ≡ sum_by (λ n. n.weight) near
weights_split regions p near = sum_by-filter_both (is_inside regions p) (λ n. not (is_inside regions p n)) (λ _. refl) (λ n. n.weight) near

pub both_pull : (w v low high p q : ℕ) → IsPull w low high p → IsPull v low high q → IsPull (w + v) low high (p + q)
both_pull w v low high p q a b = record {
  low = omega (arith, add-mul w v low, a.low, b.low);
  high = omega (arith, add-mul w v high, a.high, b.high);
}

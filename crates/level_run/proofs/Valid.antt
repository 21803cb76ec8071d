-- The system of a level is valid, where each point of the network has a chain.
use Rattle.std.proofs.Common.{◌≡◌, ℕ, ◌<◌, ◌≤◌, Bool, true, false, cond, List, [], ◌∷◌, length, get_or, refl, sym, ◌∙◌, ap, subst, arith}
use Rattle.std.specs.Prelude.{map, sum_by}
use Rattle.std.specs.List.{AllByRecursion}
use Rattle.std.proofs.lemmas.Bool.{eqb-true}
use Rattle.std.proofs.lemmas.List.Elements.{All-from_recursion, All-get_or}
use Rattle.std.proofs.lemmas.List.Sums.{get_or-le-sum_by}
use Rattle.relax_system.specs.declared.valid.TheConstants.{MOST_COORDINATE}
use Rattle.pad_reach.specs.Chain.{Joint, IsNeighbour, IsChain, HasChain}
use Rattle.area_cut.specs.declared.axis.Axis.{Axis}
use Rattle.area_cut.specs.declared.region.Region.{Region}
use Rattle.area_cut.specs.Regions.{IsGood, AreGood, IsWithin, AreWithin, HaveHomes, low_end, high_end, no_region, home_of, region_of}
use Rattle.net_model.specs.declared.parts.Near.{Near}
use Rattle.net_model.specs.Values.{NetworkValue, point_at}
use Rattle.net_model.specs.Network.{total_weight}
use Rattle.net_model.specs.WellFormed.{IsGoodNear, IsNet}
use Rattle.net_model.specs.Webs.{has_pins, joints_of}
use Rattle.relax_system.specs.declared.points.Point.{Point}
use Rattle.relax_system.specs.System.{IsValidNear, IsValidPoint, IsValid}
use Rattle.level_run.specs.LevelSystem.{is_inside, inside, outside, as_neighbour, level_point, level_system}
use Rattle.level_run.specs.Forms.Projection.{IsRange}
use Rattle.level_run.proofs.Constants.{range_of, near_pulls, pin_pulls, both_pull, neighbours_weight, weights_split}
use Rattle.level_run.proofs.Chains.{length_system, system_at, network_joint, pins_weigh, entry_of, no_near}

-- a chain from a point shows that it has weight
near_weighs : (network : NetworkValue) (p q : ℕ) → IsNet network → p < length network.points → IsNeighbour (joints_of network) p q → 1 ≤ sum_by (λ n. n.weight) (point_at network.points p).near
near_weighs network p q net there near =
    let own = (point_at network.points p).near in
    let entry = entry_of network p q there near in
    let good = All-get_or (IsGoodNear (length network.points) p) own entry.0 no_near entry.1 (All-from_recursion (IsGoodNear (length network.points) p) own (net.each p there).near) in
    let positive = good.positive in
    let some = get_or-le-sum_by (λ (n : Near). n.weight) own entry.0 no_near entry.1 in
    omega arith

chain_weighs : (network : NetworkValue) (p : ℕ) (rest : List ℕ) → IsNet network → p < length network.points → IsChain (joints_of network) (p ∷ rest) → 1 ≤ total_weight (point_at network.points p)
chain_weighs network p [] net there chain =
    let pinned : has_pins (point_at network.points p).pins ≡ true = sym (ap (λ (j : Joint). j.anchored) (network_joint network p there)) ∙ chain in
    let some = pins_weigh (point_at network.points p).pins (net.each p there).pins pinned in
    omega arith
chain_weighs network p (q ∷ rest) net there chain = let some = near_weighs network p q net there chain.0 in omega arith

pub has_weight : (network : NetworkValue) (p : ℕ) → IsNet network → p < length network.points → HasChain (joints_of network) p → 1 ≤ total_weight (point_at network.points p)
has_weight network p net there chain = chain_weighs network p chain.0 net there chain.1

module _ (axis : Axis) (network : NetworkValue) (regions : List Region) (mids : List ℕ) (net : IsNet network) (homes : HaveHomes (length network.points) regions) (good : AreGood regions) (within : AreWithin MOST_COORDINATE regions) where
  range_at : (p : ℕ) → p < length network.points → IsRange axis (region_of regions p)
  range_at p there =
      let home = homes.there p there in
      range_of axis (region_of regions p) (All-get_or IsGood regions (home_of regions p) no_region home good) (All-get_or (IsWithin MOST_COORDINATE) regions (home_of regions p) no_region home within)

  near_valid : (p : ℕ) (n : Near) → p < length network.points → IsGoodNear (length network.points) p n → is_inside regions p n ≡ true → IsValidNear (level_system axis network regions mids) p (as_neighbour n)
  near_valid p n there fine here =
      let same : home_of regions n.point ≡ home_of regions p = eqb-true (home_of regions n.point) (home_of regions p) here in
      let own = system_at axis network regions mids p there in
      let other = system_at axis network regions mids n.point fine.there in
      let many = length_system axis network regions mids in
      let low = λ (k : ℕ). low_end axis (get_or regions k no_region) in
      let high = λ (k : ℕ). high_end axis (get_or regions k no_region) in
      let inside = fine.there in
      record {
        there = omega arith;
        other = fine.other;
        same_lo = ap (λ (q : Point). q.lo) other ∙ ap low same ∙ sym (ap (λ (q : Point). q.lo) own);
        same_hi = ap (λ (q : Point). q.hi) other ∙ ap high same ∙ sym (ap (λ (q : Point). q.hi) own);
        positive = fine.positive;
      }

  nears_valid : (p : ℕ) (near : List Near) → p < length network.points → AllByRecursion (IsGoodNear (length network.points) p) near → AllByRecursion (IsValidNear (level_system axis network regions mids) p) (map as_neighbour (inside regions p near))
  nears_valid p [] there fine = tt
  nears_valid p (n ∷ near) there fine = by_cases (nears_valid p near there fine.1) (is_inside regions p n) refl where
    by_cases : AllByRecursion (IsValidNear (level_system axis network regions mids) p) (map as_neighbour (inside regions p near)) → (b : Bool) → is_inside regions p n ≡ b
        → AllByRecursion (IsValidNear (level_system axis network regions mids) p) (map as_neighbour (cond b (n ∷ inside regions p near) (inside regions p near)))
    by_cases rest true e = (near_valid p n there fine.0 e, rest)
    by_cases rest false e = rest

  point_valid : (p : ℕ) → p < length network.points → HasChain (joints_of network) p → IsValidPoint (level_system axis network regions mids) p (level_point axis network regions mids p)
  point_valid p there chain =
      let own = point_at network.points p in
      let fine = net.each p there in
      let range = range_at p there in
      let stay = neighbours_weight (inside regions p own.near) in
      let split = weights_split regions p own.near in
      let weight = has_weight network p net there chain in
      let light = fine.light in
      let region = region_of regions p in
      let outer = near_pulls axis regions mids region (outside regions p own.near) range in
      let fixed = pin_pulls axis region own.pins range in
      let pull = both_pull _ _ (low_end axis region) (high_end axis region) _ _ outer fixed in
      record {
        ordered = range.ordered;
        limit = range.limit;
        near = All-from_recursion _ _ (nears_valid p own.near there fine.near);
        joined = omega arith;
        light = omega arith;
        anchored_low = pull.low;
        anchored_high = pull.high;
      }

  pub system_is_valid : ((p : ℕ) → p < length network.points → HasChain (joints_of network) p) → IsValid (level_system axis network regions mids)
  system_is_valid chains =
      let many = length_system axis network regions mids in
      let few = net.few in
      record {
        few = omega arith;
        each = λ p in_system.
            let there : p < length network.points = omega arith in
            let P : Point → Type 0 = IsValidPoint (level_system axis network regions mids) p in
            subst P (sym (system_at axis network regions mids p there)) (point_valid p there (chains p there));
      }

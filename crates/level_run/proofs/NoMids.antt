-- Over one region no mids are used.
use Rattle.std.proofs.Common.{◌≡◌, ℕ, ◌+◌, ◌<◌, Bool, true, not, cond, List, [], ◌∷◌, length, refl, sym, ◌∙◌, ap, arith}
use Rattle.std.specs.Prelude.{map, sum_by}
use Rattle.std.specs.List.{AllByRecursion}
use Rattle.std.proofs.lemmas.Bool.{eq-eqb}
use Rattle.std.proofs.lemmas.List.{ext_get_or}
use Rattle.area_cut.specs.declared.axis.Axis.{Axis}
use Rattle.area_cut.specs.declared.region.Region.{Region}
use Rattle.area_cut.specs.Regions.{low_end, high_end, HaveHomes, home_of, region_of}
use Rattle.net_model.specs.declared.parts.Near.{Near}
use Rattle.net_model.specs.Values.{NetworkValue, point_at}
use Rattle.net_model.specs.WellFormed.{IsGoodNear, IsNet}
use Rattle.relax_system.specs.declared.points.Point.{Point}
use Rattle.relax_system.specs.System.{no_point}
use Rattle.level_run.specs.LevelSystem.{is_inside, inside, outside, as_neighbour, near_pull, pin_pull, level_point, level_system}
use Rattle.level_run.specs.Levels.{core_region}
use Rattle.level_run.proofs.Chains.{length_system, system_at}

none_outside : (n : ℕ) (region : Region) (p q : ℕ) (near : List Near) → HaveHomes n (region ∷ []) → p < n → AllByRecursion (IsGoodNear n q) near → outside (region ∷ []) p near ≡ []
none_outside n region p q [] homes there good = refl
none_outside n region p q (x ∷ near) homes there good =
    let own = homes.there p there in
    let other = homes.there x.point good.0.there in
    let here : is_inside (region ∷ []) p x ≡ true = eq-eqb (home_of (region ∷ []) x.point) (home_of (region ∷ []) p) (omega arith) in
    ap (λ (b : Bool). cond (not b) (x ∷ outside (region ∷ []) p near) (outside (region ∷ []) p near)) here ∙ none_outside n region p q near homes there good.1

same_point : (axis : Axis) (network : NetworkValue) (region : Region) (mids other : List ℕ) (p : ℕ) → IsNet network → HaveHomes (length network.points) (region ∷ []) → p < length network.points
    → level_point axis network (region ∷ []) mids p ≡ level_point axis network (region ∷ []) other p
same_point axis network region mids other p net homes there =
    let own = point_at network.points p in
    let regions = region ∷ [] in
    let none = none_outside (length network.points) region p p own.near homes there (net.each p there).near in
    let with_mids = λ (ms : List ℕ) (ns : List Near). let point : Point = record {
      lo = low_end axis (region_of regions p);
      hi = high_end axis (region_of regions p);
      near = map as_neighbour (inside regions p own.near);
      anchor = sum_by (λ (n : Near). n.weight) ns + sum_by (λ pin. pin.weight) own.pins;
      anchored = near_pull axis regions ms (region_of regions p) ns + pin_pull axis (region_of regions p) own.pins;
    } in point in
    ap (with_mids mids) none ∙ sym (ap (with_mids other) none)

pub no_mids_used : (axis : Axis) (network : NetworkValue) (mids other : List ℕ) → IsNet network → HaveHomes (length network.points) (core_region network ∷ []) → level_system axis network (core_region network ∷ []) mids ≡ level_system axis network (core_region network ∷ []) other
no_mids_used axis network mids other net homes =
    let regions = core_region network ∷ [] in
    let many = length_system axis network regions mids in
    let also = length_system axis network regions other in
    ext_get_or no_point (level_system axis network regions mids) (level_system axis network regions other) (omega arith) (λ p inside.
    let there : p < length network.points = omega arith in
    system_at axis network regions mids p there ∙ same_point axis network (core_region network) mids other p net homes there ∙ sym (system_at axis network regions other p there))

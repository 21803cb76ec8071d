-- What the code makes of a point's neighbours is what the definition says.
use Rattle.std.proofs.Common.{◌≡◌, ◌⊎◌, ℕ, ◌+◌, ◌*◌, ◌<◌, ◌≤◌, Bool, true, false, not, cond, eqb, List, [], ◌∷◌, ◌++◌, length, get_or, take, refl, sym, ◌∙◌, ap, subst, inl, inr, arith}
use Rattle.std.specs.Prelude.{map, sum_by, All, Contains}
use Rattle.std.specs.List.{list_any}
use Rattle.std.proofs.Math.Nat.{mul-le-mul_right, mul-le-mul_left}
use Rattle.std.proofs.lemmas.Bool.{cases_Bool, eqb-true, eq-eqb, ne_eqb}
use Rattle.std.proofs.lemmas.List.{append-nil, get_or_default, map-append, take_all}
use Rattle.std.proofs.lemmas.List.Elements.{filter_more, All-weaker, All-contains_itself}
use Rattle.std.proofs.lemmas.List.Filters.{sum_by-filter_both}
use Rattle.std.proofs.lemmas.List.Sums.{sum_by_push, sum_by-take-le, passes_at_first}
use Rattle.std.proofs.lemmas.Map.Views.{Contains-from_any}
use Rattle.relax_system.specs.declared.valid.TheConstants.{MOST_COORDINATE}
use Rattle.net_model.specs.declared.limits.TheConstants.{MOST_WEIGHT}
use Rattle.area_cut.specs.declared.axis.Axis.{Axis}
use Rattle.area_cut.specs.declared.region.Region.{Region}
use Rattle.area_cut.specs.Regions.{low_end, high_end, HaveHomes, no_region, has_point, home_of, region_of}
use Rattle.net_model.specs.declared.parts.Near.{Near}
use Rattle.net_model.specs.declared.parts.FixedPin.{FixedPin}
use Rattle.net_model.specs.Values.{NetworkValue, point_at}
use Rattle.relax_system.specs.declared.points.Near.{Near as Neighbour}
use Rattle.relax_system.specs.declared.points.Point.{Point}
use Rattle.level_run.specs.LevelSystem.{level_point, clamped, is_inside, inside, outside, stand_of, near_pull, pin_pull, as_neighbour}
use Rattle.level_run.specs.Forms.Projection.{AreHomes, IsRange}
use Rattle.level_run.proofs.Constants.{near_pulls, pin_pulls}

-- ---- homes

at_end : (regions : List Region) (k : ℕ) (d : Region) → k < length regions → get_or regions k d ≡ get_or regions k no_region
at_end regions k d inside = get_or_default regions k d no_region inside

home_is : (n : ℕ) (regions : List Region) (k : ℕ) (d : Region) (p : ℕ) → HaveHomes n regions → k < length regions → has_point p (get_or regions k d) ≡ true → home_of regions p ≡ k
home_is n regions k d p homes inside has =
    homes.only p k inside (subst (λ (r : Region). Contains r.points p) (at_end regions k d inside) (Contains-from_any eqb-true p (get_or regions k d).points has))

-- each number that stands in a region is a point
pub are_points : (n : ℕ) (regions : List Region) (k : ℕ) (d : Region) → HaveHomes n regions → k < length regions → All (λ p. p < n) (get_or regions k d).points
are_points n regions k d homes inside =
    let points = (get_or regions k no_region).points in
    subst (λ (r : Region). All (λ p. p < n) r.points) (sym (at_end regions k d inside))
    (All-weaker (Contains points) (λ (p : ℕ). p < n) (λ p among. homes.bounded p k inside among) points (All-contains_itself points))

-- after the region k, the homes of the points of all regions up to it are right
pub homes_more : (n : ℕ) (regions : List Region) (k : ℕ) (d : Region) (old new : List ℕ) → HaveHomes n regions → k < length regions
    → ((p : ℕ) → p < n → home_of regions p < k → get_or old p 0 ≡ home_of regions p)
    → ((p : ℕ) → get_or new p 0 ≡ cond (list_any (eqb p) (get_or regions k d).points) k (get_or old p 0))
    → (p : ℕ) → p < n → home_of regions p < k + 1 → get_or new p 0 ≡ home_of regions p
homes_more n regions k d old new homes inside before written p there below = by_cases (cases_Bool (has_point p (get_or regions k d))) where
  by_cases : (has_point p (get_or regions k d) ≡ true) ⊎ (has_point p (get_or regions k d) ≡ false) → get_or new p 0 ≡ home_of regions p
  by_cases (inl e) =
      let here = home_is n regions k d p homes inside e in
      written p ∙ ap (λ (b : Bool). cond b k (get_or old p 0)) e ∙ sym here
  by_cases (inr e) =
      let other : home_of regions p ≡ k → ⊥ = λ same.
      let at = passes_at_first (has_point p) regions d (omega arith) in
      let also : has_point p (get_or regions (home_of regions p) d) ≡ false = ap (λ (j : ℕ). has_point p (get_or regions j d)) same ∙ e in
      cc in
      written p ∙ ap (λ (b : Bool). cond b k (get_or old p 0)) e ∙ before p there (omega (arith, other))

-- ---- neighbours in the own region

pub inner_takes : (regions : List Region) (p : ℕ) (near : List Near) (i : ℕ) (d : Near) → i < length near → is_inside regions p (get_or near i d) ≡ true
    → map as_neighbour (inside regions p (take (i + 1) near)) ≡ map as_neighbour (inside regions p (take i near)) ++ as_neighbour (get_or near i d) ∷ []
inner_takes regions p near i d in_near here =
    ap (map as_neighbour) (filter_more (is_inside regions p) near i d in_near ∙ ap (λ (b : Bool). inside regions p (take i near) ++ cond b (get_or near i d ∷ []) []) here)
    ∙ map-append as_neighbour (inside regions p (take i near)) (get_or near i d ∷ [])

pub inner_skips : (regions : List Region) (p : ℕ) (near : List Near) (i : ℕ) (d : Near) → i < length near → is_inside regions p (get_or near i d) ≡ false → inside regions p (take (i + 1) near) ≡ inside regions p (take i near)
inner_skips regions p near i d in_near elsewhere =
    filter_more (is_inside regions p) near i d in_near ∙ ap (λ (b : Bool). inside regions p (take i near) ++ cond b (get_or near i d ∷ []) []) elsewhere ∙ append-nil (inside regions p (take i near))

-- ---- the sums over neighbours in other regions

outside_more : (regions : List Region) (p : ℕ) (near : List Near) (i : ℕ) (d : Near) → i < length near → outside regions p (take (i + 1) near) ≡ outside regions p (take i near) ++ cond (not (is_inside regions p (get_or near i d))) (get_or near i d ∷ []) []
outside_more regions p near i d in_near = filter_more (λ n. not (is_inside regions p n)) near i d in_near

pub outer_skips : (regions : List Region) (p : ℕ) (near : List Near) (i : ℕ) (d : Near) → i < length near → is_inside regions p (get_or near i d) ≡ true → outside regions p (take (i + 1) near) ≡ outside regions p (take i near)
outer_skips regions p near i d in_near here =
    outside_more regions p near i d in_near ∙ ap (λ (b : Bool). outside regions p (take i near) ++ cond (not b) (get_or near i d ∷ []) []) here ∙ append-nil (outside regions p (take i near))

outer_takes : (regions : List Region) (p : ℕ) (near : List Near) (i : ℕ) (d : Near) → i < length near → is_inside regions p (get_or near i d) ≡ false → outside regions p (take (i + 1) near) ≡ outside regions p (take i near) ++ get_or near i d ∷ []
outer_takes regions p near i d in_near elsewhere =
    outside_more regions p near i d in_near ∙ ap (λ (b : Bool). outside regions p (take i near) ++ cond (not b) (get_or near i d ∷ []) []) elsewhere

pub outer_weight : (regions : List Region) (p : ℕ) (near : List Near) (i : ℕ) (d : Near) → i < length near → is_inside regions p (get_or near i d) ≡ false
    → sum_by (λ n. n.weight) (outside regions p (take (i + 1) near)) ≡ sum_by (λ n. n.weight) (outside regions p (take i near)) + (get_or near i d).weight
outer_weight regions p near i d in_near elsewhere =
    ap (sum_by (λ (n : Near). n.weight)) (outer_takes regions p near i d in_near elsewhere) ∙ sum_by_push (λ (n : Near). n.weight) (outside regions p (take i near)) (get_or near i d)

pub outer_pull : (axis : Axis) (regions : List Region) (mids : List ℕ) (p : ℕ) (near : List Near) (i : ℕ) (d : Near) → i < length near → is_inside regions p (get_or near i d) ≡ false
    → near_pull axis regions mids (region_of regions p) (outside regions p (take (i + 1) near))
    ≡ near_pull axis regions mids (region_of regions p) (outside regions p (take i near)) + (get_or near i d).weight * clamped axis (region_of regions p) (stand_of axis regions mids (get_or near i d).point)
outer_pull axis regions mids p near i d in_near elsewhere =
    let f = λ (n : Near). n.weight * clamped axis (region_of regions p) (stand_of axis regions mids n.point) in
    ap (sum_by f) (outer_takes regions p near i d in_near elsewhere) ∙ sum_by_push f (outside regions p (take i near)) (get_or near i d)

pub record IsSmall (total sum : ℕ) : Type 0 where
  pub weight : total ≤ MOST_WEIGHT
  pub pull : sum ≤ MOST_WEIGHT * MOST_COORDINATE

small : (weight low high pull : ℕ) → weight ≤ MOST_WEIGHT → high ≤ MOST_COORDINATE → pull ≤ weight * high → IsSmall weight pull
small weight low high pull light limit at = record {
  weight = light;
  pull = omega (arith, mul-le-mul_right high light, mul-le-mul_left MOST_WEIGHT limit);
}

pub outer_small : (axis : Axis) (regions : List Region) (mids : List ℕ) (p : ℕ) (near : List Near) (j : ℕ) → IsRange axis (region_of regions p) → sum_by (λ n. n.weight) near ≤ MOST_WEIGHT
    → IsSmall (sum_by (λ n. n.weight) (outside regions p (take j near))) (near_pull axis regions mids (region_of regions p) (outside regions p (take j near)))
outer_small axis regions mids p near j range light =
    let part = sum_by-take-le (λ (n : Near). n.weight) near j in
    let both = sum_by-filter_both (is_inside regions p) (λ n. not (is_inside regions p n)) (λ _. refl) (λ (n : Near). n.weight) (take j near) in
    let pulls = near_pulls axis regions mids (region_of regions p) (outside regions p (take j near)) range in
    small _ (low_end axis (region_of regions p)) (high_end axis (region_of regions p)) _ (omega arith) range.limit pulls.high

pub pins_small : (axis : Axis) (region : Region) (pins : List FixedPin) (j : ℕ) → IsRange axis region → sum_by (λ pin. pin.weight) pins ≤ MOST_WEIGHT
    → IsSmall (sum_by (λ pin. pin.weight) (take j pins)) (pin_pull axis region (take j pins))
pins_small axis region pins j range light =
    let part = sum_by-take-le (λ (pin : FixedPin). pin.weight) pins j in
    let pulls = pin_pulls axis region (take j pins) range in
    small _ (low_end axis region) (high_end axis region) _ (omega arith) range.limit pulls.high

-- ---- by the code's tests and reads

pub inside_by : (points : ℕ) (regions : List Region) (homes : List ℕ) (p : ℕ) (near : Near) → AreHomes points regions homes → p < points → near.point < points → get_or homes near.point 0 ≡ get_or homes p 0 → is_inside regions p near ≡ true
inside_by points regions homes p near right there near_there same = eq-eqb (home_of regions near.point) (home_of regions p) (sym (right.each near.point near_there) ∙ same ∙ right.each p there)

pub outside_by : (points : ℕ) (regions : List Region) (homes : List ℕ) (p : ℕ) (near : Near) → AreHomes points regions homes → p < points → near.point < points → (get_or homes near.point 0 ≡ get_or homes p 0 → ⊥) → is_inside regions p near ≡ false
outside_by points regions homes p near right there near_there other = ne_eqb (home_of regions near.point) (home_of regions p) (λ e. other (right.each near.point near_there ∙ e ∙ sym (right.each p there)))

pub region_is : (points : ℕ) (regions : List Region) (homes : List ℕ) (p : ℕ) (region : Region) → AreHomes points regions homes → p < points → region ≡ get_or regions (get_or homes p 0) region → region ≡ region_of regions p
region_is points regions homes p region right there is = is ∙ ap (λ (h : ℕ). get_or regions h region) (right.each p there) ∙ get_or_default regions (home_of regions p) region no_region (right.there p there)

-- where a neighbour stands, by the regions that were read
pub stands_at : (axis : Axis) (points : ℕ) (regions : List Region) (homes mids : List ℕ) (p q : ℕ) (own other : Region) (stand at : ℕ) → AreHomes points regions homes → p < points → q < points
    → own ≡ get_or regions (get_or homes p 0) own → other ≡ get_or regions (get_or homes q 0) other → stand ≡ clamped axis other (get_or mids q 0) → at ≡ clamped axis own stand
    → at ≡ clamped axis (region_of regions p) (stand_of axis regions mids q)
stands_at axis points regions homes mids p q own other stand at right p_there q_there own_is other_is stand_is at_is =
    at_is ∙ ap (λ (r : Region). clamped axis r stand) (region_is points regions homes p own right p_there own_is)
    ∙ ap (clamped axis (region_of regions p)) (stand_is ∙ ap (λ (r : Region). clamped axis r (get_or mids q 0)) (region_is points regions homes q other right q_there other_is))

pub outer_whole : (axis : Axis) (regions : List Region) (mids : List ℕ) (p : ℕ) (near : List Near) → IsRange axis (region_of regions p) → sum_by (λ n. n.weight) near ≤ MOST_WEIGHT
    → IsSmall (sum_by (λ n. n.weight) (outside regions p near)) (near_pull axis regions mids (region_of regions p) (outside regions p near))
outer_whole axis regions mids p near range light =
    let P = λ (ns : List Near). IsSmall (sum_by (λ (n : Near). n.weight) (outside regions p ns)) (near_pull axis regions mids (region_of regions p) (outside regions p ns)) in
    subst P (take_all (length near) near (omega arith)) (outer_small axis regions mids p near (length near) range light)

pub pins_whole : (axis : Axis) (region : Region) (pins : List FixedPin) → IsRange axis region → sum_by (λ pin. pin.weight) pins ≤ MOST_WEIGHT → IsSmall (sum_by (λ pin. pin.weight) pins) (pin_pull axis region pins)
pins_whole axis region pins range light =
    let P = λ (ps : List FixedPin). IsSmall (sum_by (λ (pin : FixedPin). pin.weight) ps) (pin_pull axis region ps) in
    subst P (take_all (length pins) pins (omega arith)) (pins_small axis region pins (length pins) range light)

abbrev point_of : ℕ → ℕ → List Neighbour → ℕ → ℕ → Point
point_of lo hi near anchor anchored = record { lo = lo; hi = hi; near = near; anchor = anchor; anchored = anchored }

-- a point with these parts is the level's
pub is_level_point : (axis : Axis) (network : NetworkValue) (regions : List Region) (mids : List ℕ) (p lo hi outer outer_sum fixed fixed_sum : ℕ) (near : List Neighbour) (region : Region)
    → region ≡ region_of regions p → lo ≡ low_end axis region → hi ≡ high_end axis region → near ≡ map as_neighbour (inside regions p (point_at network.points p).near)
    → outer ≡ sum_by (λ n. n.weight) (outside regions p (point_at network.points p).near) → outer_sum ≡ near_pull axis regions mids (region_of regions p) (outside regions p (point_at network.points p).near)
    → fixed ≡ sum_by (λ pin. pin.weight) (point_at network.points p).pins → fixed_sum ≡ pin_pull axis region (point_at network.points p).pins
    → point_of lo hi near (outer + fixed) (outer_sum + fixed_sum) ≡ level_point axis network regions mids p
is_level_point axis network regions mids p lo hi outer outer_sum fixed fixed_sum near region region_is low_is high_is near_is outer_is outer_sum_is fixed_is fixed_sum_is =
    let own = point_at network.points p in
    let l = low_end axis (region_of regions p) in
    let h = high_end axis (region_of regions p) in
    let ns = map as_neighbour (inside regions p own.near) in
    let anchor = ap (λ (w : ℕ). w + fixed) outer_is ∙ ap (λ (w : ℕ). sum_by (λ (n : Near). n.weight) (outside regions p own.near) + w) fixed_is in
    let sum = ap (λ (s : ℕ). s + fixed_sum) outer_sum_is ∙ ap (λ (s : ℕ). near_pull axis regions mids (region_of regions p) (outside regions p own.near) + s) (fixed_sum_is ∙ ap (λ (r : Region). pin_pull axis r own.pins) region_is) in
    ap (λ (n : ℕ). point_of n hi near (outer + fixed) (outer_sum + fixed_sum)) (low_is ∙ ap (low_end axis) region_is)
    ∙ ap (λ (n : ℕ). point_of l n near (outer + fixed) (outer_sum + fixed_sum)) (high_is ∙ ap (high_end axis) region_is)
    ∙ ap (λ (xs : List Neighbour). point_of l h xs (outer + fixed) (outer_sum + fixed_sum)) near_is
    ∙ ap (λ (n : ℕ). point_of l h ns n (outer_sum + fixed_sum)) anchor
    ∙ ap (λ (n : ℕ). point_of l h ns (level_point axis network regions mids p).anchor n) sum

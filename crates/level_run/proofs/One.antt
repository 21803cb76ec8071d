-- There is exactly one list of rounds, and each of its systems is valid.
use Rattle.std.proofs.Common.{◌≡◌, Bool, true, false, cond, eqb, ℕ, zero, suc, ◌+◌, ◌/◌, ◌<◌, ◌≤◌, ◌⊎◌, List, [], ◌∷◌, ◌++◌, length, get_or, refl, sym, ◌∙◌, ap, subst, inl, inr, arith}
use Rattle.std.specs.Prelude.{ℤ}
use Rattle.std.proofs.lemmas.Bool.{cases_Bool, cases_lt}
use Rattle.std.proofs.lemmas.List.{ext_get_or, length_push, get_or_append_left, get_or_push, get_or_default}
use Rattle.std.proofs.lemmas.List.FromFn.{length-map-range_with_len}
use Rattle.pad_reach.specs.Chain.{HasChain}
use Rattle.relax_system.specs.declared.points.Point.{Point}
use Rattle.relax_system.specs.System.{IsValid, joints_of as joints_of_system}
use Rattle.relax_system.specs.Means.{AtMost, IsFloorFixed, IsCeilFixed}
use Rattle.relax_system.specs.Exact.{IsExact, IsBetween, HasLowerResiduals, HasUpperResiduals}
use Rattle.relax_system.specs.Extremal.{IsLeast, IsGreatest}
use Rattle.area_cut.specs.declared.axis.Axis.{Axis}
use Rattle.area_cut.specs.declared.axis.Axis.TheVariants.{X, Y}
use Rattle.area_cut.specs.declared.region.Region.{Region}
use Rattle.area_cut.specs.Regions.{ArePartition, AreShares, HaveHomes}
use Rattle.area_cut.specs.Cut.{cut_of}
use Rattle.net_model.specs.Values.{NetworkValue}
use Rattle.net_model.specs.WellFormed.{IsNet}
use Rattle.level_run.specs.declared.level.Solve.{Solve}
use Rattle.level_run.specs.declared.level.Level.{Level}
use Rattle.level_run.specs.LevelSystem.{level_system}
use Rattle.level_run.specs.Rounds.{level_of}
use Rattle.level_run.specs.Levels.{halfway, IsSolve, IsLevel, core_region, areas_of, no_mids, next_regions, regions_after, IsFirst, IsNext, AreRounds, HasChains, no_level, solve_on, level_at, mids_before, system_of, Encloses}
use Rattle.level_run.specs.Forms.Solved.{IsSane}
use Rattle.level_run.proofs.Chains.{length_system, chains_stay}
use Rattle.level_run.proofs.Shared.{core_shares}
use Rattle.level_run.proofs.Valid.{system_is_valid}

-- what the crates below say
pub record Laws : Type 0 where
  pub shares : (points limit : ℕ) (areas xs ys : List ℕ) (regions : List Region) → AreShares points limit regions → AreShares points limit (cut_of areas xs ys regions)
  pub homes : (points : ℕ) (regions : List Region) → ArePartition points regions → HaveHomes points regions
  pub least_there : (points : List Point) → IsValid points → (v : List ℕ) × IsLeast points v
  pub greatest_there : (points : List Point) → IsValid points → (v : List ℕ) × IsGreatest points v

pub record Bounds : Type 0 where
  pub lower_fixed : (points : List Point) (v : List ℕ) → IsValid points → IsLeast points v → IsFloorFixed points v
  pub upper_fixed : (points : List Point) (v : List ℕ) → IsValid points → IsGreatest points v → IsCeilFixed points v
  pub ordered : (points : List Point) (lo hi : List ℕ) → IsValid points → IsLeast points lo → IsGreatest points hi → AtMost lo hi
  pub lower : (points : List Point) (lo : List ℕ) → IsValid points → IsLeast points lo → HasLowerResiduals points lo
  pub upper : (points : List Point) (hi : List ℕ) → IsValid points → IsGreatest points hi → HasUpperResiduals points hi
  pub encloses : (points : List Point) (lo hi : List ℕ) (d : ℕ) (z : List ℤ) → IsValid points → ((p : ℕ) → p < length points → HasChain (joints_of_system points) p) → IsLeast points lo → IsGreatest points hi → IsExact points d z → IsBetween lo hi d z

pub mid_length : (axis : Axis) (network : NetworkValue) (regions : List Region) (mids : List ℕ) (solve : Solve) → IsSolve (level_system axis network regions mids) solve → length solve.mid ≡ length network.points
mid_length axis network regions mids solve is =
    let many = length-map-range_with_len (λ (i : ℕ). (get_or solve.lo i 0 + get_or solve.hi i 0) / 2) 0 (length solve.lo) in
    ap length is.mid ∙ many ∙ is.lo.in_boxes.all ∙ length_system axis network regions mids

pub level_sane : (network : NetworkValue) (regions : List Region) (xs ys : List ℕ) (level : Level) → AreShares (length network.points) 2000000000000 regions → IsLevel network regions xs ys level → IsSane network level
level_sane network regions xs ys level shares is = record {
  shares = subst (λ (rs : List Region). AreShares (length network.points) 2000000000000 rs) (sym is.regions) shares;
  xs = mid_length X network regions xs level.x is.x;
  ys = mid_length Y network regions ys level.y is.y;
}

-- the regions of the next round share out the points, too
pub shares_after : (share : (points limit : ℕ) (areas xs ys : List ℕ) (regions : List Region) → AreShares points limit regions → AreShares points limit (cut_of areas xs ys regions)) (network : NetworkValue) (passes r : ℕ) (level : Level) → IsSane network level → AreShares (length network.points) 2000000000000 (regions_after network passes r level)
shares_after share network passes r level sane = by_case (cases_Bool (eqb (level_of passes (r + 1)) (level_of passes r))) where
  P : Bool → Type 0
  P same = AreShares (length network.points) 2000000000000 (cond same level.regions (next_regions network level))

  by_case : (eqb (level_of passes (r + 1)) (level_of passes r) ≡ true) ⊎ (eqb (level_of passes (r + 1)) (level_of passes r) ≡ false) → AreShares (length network.points) 2000000000000 (regions_after network passes r level)
  by_case (inl e) = subst P (sym e) sane.shares
  by_case (inr e) = subst P (sym e) (share (length network.points) 2000000000000 (areas_of network) level.x.mid level.y.mid level.regions sane.shares)

pub next_sane : (share : (points limit : ℕ) (areas xs ys : List ℕ) (regions : List Region) → AreShares points limit regions → AreShares points limit (cut_of areas xs ys regions)) (network : NetworkValue) (passes r : ℕ) (level next : Level) → IsSane network level → IsNext network passes r level next → IsSane network next
next_sane share network passes r level next sane is =
    level_sane network (regions_after network passes r level) level.x.mid level.y.mid next (shares_after share network passes r level sane) is

abbrev solve_of : List ℕ → List ℕ → List ℕ → Solve
solve_of lo hi mid = record { lo = lo; hi = hi; mid = mid }

-- no least vector is above another, and no greatest below
same_vector : (u v : List ℕ) → length u ≡ length v → AtMost u v → AtMost v u → u ≡ v
same_vector u v many up down = ext_get_or 0 u v many (λ i inside. omega (arith, up i, down i))

same_solve : (points : List Point) (a b : Solve) → IsSolve points a → IsSolve points b → a ≡ b
same_solve points a b one other =
    let lo = same_vector a.lo b.lo (one.lo.in_boxes.all ∙ sym other.lo.in_boxes.all) (one.lo.least b.lo other.lo.in_boxes other.lo.pre_fixed) (other.lo.least a.lo one.lo.in_boxes one.lo.pre_fixed) in
    let hi = same_vector a.hi b.hi (one.hi.in_boxes.all ∙ sym other.hi.in_boxes.all) (other.hi.greatest a.hi one.hi.in_boxes one.hi.post_fixed) (one.hi.greatest b.hi other.hi.in_boxes other.hi.post_fixed) in
    let mid : a.mid ≡ b.mid = one.mid ∙ ap (λ (v : List ℕ). halfway v a.hi) lo ∙ ap (λ (v : List ℕ). halfway b.lo v) hi ∙ sym other.mid in
    ap (λ (v : List ℕ). solve_of v a.hi a.mid) lo ∙ ap (λ (v : List ℕ). solve_of b.lo v a.mid) hi ∙ ap (λ (v : List ℕ). solve_of b.lo b.hi v) mid

solve_there : (laws : Laws) (points : List Point) → IsValid points → (solve : Solve) × IsSolve points solve
solve_there laws points valid =
    let lo = laws.least_there points valid in
    let hi = laws.greatest_there points valid in
    (record { lo = lo.0; hi = hi.0; mid = halfway lo.0 hi.0 }, record { lo = lo.1; hi = hi.1; mid = refl })

abbrev round_of : List Region → Solve → Solve → Level
round_of regions x y = record { regions = regions; x = x; y = y }

-- ---- at most one

same_level : (network : NetworkValue) (regions : List Region) (xs ys : List ℕ) (a b : Level) → IsLevel network regions xs ys a → IsLevel network regions xs ys b → a ≡ b
same_level network regions xs ys a b one other =
    let x = same_solve (level_system X network regions xs) a.x b.x one.x other.x in
    let y = same_solve (level_system Y network regions ys) a.y b.y one.y other.y in
    let rs : a.regions ≡ b.regions = one.regions ∙ sym other.regions in
    ap (λ (r : List Region). round_of r a.x a.y) rs ∙ ap (λ (s : Solve). round_of b.regions s a.y) x ∙ ap (λ (s : Solve). round_of b.regions b.x s) y

same_at : (network : NetworkValue) (passes many : ℕ) (a b : List Level) → AreRounds network passes many a → AreRounds network passes many b → (k : ℕ) (d : Level) → k < length a → get_or a k d ≡ get_or b k d
same_at network passes many a b one other zero d inside = same_level network (core_region network ∷ []) (no_mids network) (no_mids network) (get_or a 0 d) (get_or b 0 d) (one.first d) (other.first d)
same_at network passes many a b one other (suc k) d inside =
    let all = one.many in
    let before = same_at network passes many a b one other k d (omega arith) in
    let e : k + 1 ≡ suc k = omega arith in
    let step : IsNext network passes k (get_or a k d) (get_or a (suc k) d) = subst (λ (j : ℕ). IsNext network passes k (get_or a k d) (get_or a j d)) e (one.next k d (omega arith)) in
    let step_there : IsNext network passes k (get_or b k d) (get_or b (suc k) d) = subst (λ (j : ℕ). IsNext network passes k (get_or b k d) (get_or b j d)) e (other.next k d (omega arith)) in
    let step_too : IsNext network passes k (get_or a k d) (get_or b (suc k) d) = subst (λ (level : Level). IsNext network passes k level (get_or b (suc k) d)) (sym before) step_there in
    let level = get_or a k d in
    same_level network (regions_after network passes k level) level.x.mid level.y.mid (get_or a (suc k) d) (get_or b (suc k) d) step step_too

pub rounds_one : (network : NetworkValue) (passes many : ℕ) (a b : List Level) → AreRounds network passes many a → AreRounds network passes many b → a ≡ b
rounds_one network passes many a b one other =
    let all = one.many in
    let also = other.many in
    ext_get_or no_level a b (omega arith) (λ i inside. same_at network passes many a b one other i no_level inside)

-- ---- one round, and one more

pub one_round : (network : NetworkValue) (passes : ℕ) (round : Level) → IsFirst network round → AreRounds network passes 1 (round ∷ [])
one_round network passes round first = record { many = refl; first = λ d. first; next = λ r d inside. absurd (omega arith) }

pub one_round_more : (network : NetworkValue) (passes n : ℕ) (rounds : List Level) (next d : Level) → AreRounds network passes (n + 1) rounds → IsNext network passes n (get_or rounds n d) next → AreRounds network passes (n + 2) (rounds ++ next ∷ [])
one_round_more network passes n rounds next d is step = record {
  many = omega (arith, length_push rounds next, many);
  first = λ e. subst (λ (round : Level). IsFirst network round) (sym (get_or_append_left rounds (next ∷ []) e 0 (omega (arith, many)))) (is.first e);
  next = λ r e inside. by_cases r e (cases_lt r n) inside;
} where
  many : length rounds ≡ n + 1
  many = is.many

  own : (r : ℕ) (e : Level) → r < n + 1 → get_or (rounds ++ next ∷ []) r e ≡ get_or rounds r e
  own r e inside = get_or_append_left rounds (next ∷ []) e r (omega (arith, many))

  by_cases : (r : ℕ) (e : Level) → (r < n) ⊎ (n ≤ r) → r + 1 < n + 2 → IsNext network passes r (get_or (rounds ++ next ∷ []) r e) (get_or (rounds ++ next ∷ []) (r + 1) e)
  by_cases r e (inl before) inside =
      subst (λ (a : Level). IsNext network passes r a (get_or (rounds ++ next ∷ []) (r + 1) e)) (sym (own r e (omega arith)))
      (subst (λ (b : Level). IsNext network passes r (get_or rounds r e) b) (sym (own (r + 1) e (omega arith))) (is.next r e (omega arith)))
  by_cases r e (inr at) inside =
      let same : r ≡ n = omega arith in
      let last : get_or (rounds ++ next ∷ []) (r + 1) e ≡ next = get_or_push rounds next e (r + 1) (omega (arith, many)) in
      let round : get_or (rounds ++ next ∷ []) r e ≡ get_or rounds n d = own r e (omega arith) ∙ ap (λ (j : ℕ). get_or rounds j e) same ∙ get_or_default rounds n e d (omega (arith, many)) in
      subst (λ (a : Level). IsNext network passes r a (get_or (rounds ++ next ∷ []) (r + 1) e)) (sym round)
      (subst (λ (b : Level). IsNext network passes r (get_or rounds n d) b) (sym last)
      (subst (λ (j : ℕ). IsNext network passes j (get_or rounds n d) next) (sym same) step))

module _ (share : (points limit : ℕ) (areas xs ys : List ℕ) (regions : List Region) → AreShares points limit regions → AreShares points limit (cut_of areas xs ys regions)) (network : NetworkValue) (net : IsNet network) where
  pub sane_at : (passes many : ℕ) (rounds : List Level) → AreRounds network passes many rounds → (k : ℕ) (d : Level) → k < length rounds → IsSane network (get_or rounds k d)
  sane_at passes many rounds is zero d inside = level_sane network (core_region network ∷ []) (no_mids network) (no_mids network) (get_or rounds 0 d) (core_shares network net) (is.first d)
  sane_at passes many rounds is (suc k) d inside =
      let all = is.many in
      let before = sane_at passes many rounds is k d (omega arith) in
      let e : k + 1 ≡ suc k = omega arith in
      let step : IsNext network passes k (get_or rounds k d) (get_or rounds (suc k) d) = subst (λ (j : ℕ). IsNext network passes k (get_or rounds k d) (get_or rounds j d)) e (is.next k d (omega arith)) in
      next_sane share network passes k (get_or rounds k d) (get_or rounds (suc k) d) before step

module _ (laws : Laws) (network : NetworkValue) (net : IsNet network) (chains : HasChains network) where
  valid_with : (axis : Axis) (regions : List Region) (mids : List ℕ) → AreShares (length network.points) 2000000000000 regions → IsValid (level_system axis network regions mids)
  valid_with axis regions mids shares = system_is_valid axis network regions mids net (laws.homes (length network.points) regions shares.partition) shares.good shares.within chains

  level_there : (regions : List Region) (xs ys : List ℕ) → AreShares (length network.points) 2000000000000 regions → (level : Level) × IsLevel network regions xs ys level
  level_there regions xs ys shares =
      let x = solve_there laws (level_system X network regions xs) (valid_with X regions xs shares) in
      let y = solve_there laws (level_system Y network regions ys) (valid_with Y regions ys shares) in
      (record { regions = regions; x = x.0; y = y.0 }, record { regions = refl; x = x.1; y = y.1 })

  -- ---- at least one

  pub rounds_there : (passes n : ℕ) → (rounds : List Level) × AreRounds network passes (n + 1) rounds
  rounds_there passes zero =
      let first = level_there (core_region network ∷ []) (no_mids network) (no_mids network) (core_shares network net) in
      (first.0 ∷ [], one_round network passes first.0 first.1)
  rounds_there passes (suc n) =
      let front = rounds_there passes n in
      let many = front.1.many in
      let sane = sane_at laws.shares network net passes (n + 1) front.0 front.1 n no_level (omega arith) in
      let round = get_or front.0 n no_level in
      let next = level_there (regions_after network passes n round) round.x.mid round.y.mid (shares_after laws.shares network passes n round sane) in
      let e : n + 2 ≡ suc n + 1 = omega arith in
      (front.0 ++ next.0 ∷ [], subst (λ (m : ℕ). AreRounds network passes m (front.0 ++ next.0 ∷ [])) e (one_round_more network passes n front.0 next.0 no_level front.1 next.1))

  -- ---- what each round was solved by

  solved_at : (passes many : ℕ) (levels : List Level) → AreRounds network passes many levels → (axis : Axis) (k : ℕ) → k < length levels → IsSolve (system_of axis network levels k) (solve_on axis (level_at levels k))
  solved_at passes many levels is X zero inside = let first = is.first no_level in subst (λ (rs : List Region). IsSolve (level_system X network rs (no_mids network)) (level_at levels 0).x) (sym first.regions) first.x
  solved_at passes many levels is Y zero inside = let first = is.first no_level in subst (λ (rs : List Region). IsSolve (level_system Y network rs (no_mids network)) (level_at levels 0).y) (sym first.regions) first.y
  solved_at passes many levels is X (suc k) inside =
      let all = is.many in
      let e : k + 1 ≡ suc k = omega arith in
      let step : IsNext network passes k (level_at levels k) (level_at levels (suc k)) = subst (λ (j : ℕ). IsNext network passes k (level_at levels k) (level_at levels j)) e (is.next k no_level (omega arith)) in
      subst (λ (rs : List Region). IsSolve (level_system X network rs (level_at levels k).x.mid) (level_at levels (suc k)).x) (sym step.regions) step.x
  solved_at passes many levels is Y (suc k) inside =
      let all = is.many in
      let e : k + 1 ≡ suc k = omega arith in
      let step : IsNext network passes k (level_at levels k) (level_at levels (suc k)) = subst (λ (j : ℕ). IsNext network passes k (level_at levels k) (level_at levels j)) e (is.next k no_level (omega arith)) in
      subst (λ (rs : List Region). IsSolve (level_system Y network rs (level_at levels k).y.mid) (level_at levels (suc k)).y) (sym step.regions) step.y

  pub valid_at : (passes many : ℕ) (levels : List Level) → AreRounds network passes many levels → (axis : Axis) (k : ℕ) → k < length levels → IsValid (system_of axis network levels k)
  valid_at passes many levels is axis k inside = valid_with axis (level_at levels k).regions (mids_before axis network levels k) (sane_at laws.shares network net passes many levels is k no_level inside).shares

  pub encloses_at : (bounds : Bounds) (passes many : ℕ) (levels : List Level) → AreRounds network passes many levels → (axis : Axis) (k : ℕ) → k < length levels → Encloses (system_of axis network levels k) (solve_on axis (level_at levels k))
  encloses_at bounds passes many levels is axis k inside =
      let points = system_of axis network levels k in
      let solve = solve_on axis (level_at levels k) in
      let valid = valid_at passes many levels is axis k inside in
      let solved = solved_at passes many levels is axis k inside in
      let wide = length_system axis network (level_at levels k).regions (mids_before axis network levels k) in
      record {
        lower_fixed = bounds.lower_fixed points solve.lo valid solved.lo;
        upper_fixed = bounds.upper_fixed points solve.hi valid solved.hi;
        ordered = bounds.ordered points solve.lo solve.hi valid solved.lo solved.hi;
        lower = bounds.lower points solve.lo valid solved.lo;
        upper = bounds.upper points solve.hi valid solved.hi;
        encloses = λ d z exact. bounds.encloses points solve.lo solve.hi d z valid (λ p there. let in_network : p < length network.points = omega arith in chains_stay axis network (level_at levels k).regions (mids_before axis network levels k) p net in_network (chains p in_network)) solved.lo solved.hi exact;
      }

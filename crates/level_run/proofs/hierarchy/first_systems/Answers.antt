use Rattle.std.proofs.Common.{◌≡◌, ℕ, List, [], ◌∷◌, length, sym, ◌∙◌, ap, subst}
use Rattle.std.proofs.Common.{w64, rules}
use Rattle.std.proofs.lemmas.Int.{to_z-of_z}
use Rattle.std.specs.List.{range_with_len}
use Rattle.relax_system.specs.declared.valid.TheConstants.{MOST_COORDINATE}
use Rattle.book_design.specs.declared.parts.Core.{Core}
use Rattle.area_cut.specs.declared.region.Region.{Region}
use Rattle.area_cut.specs.Regions.{AreShares}
use Rattle.level_run.specs.LevelSystem.{coordinate}
use Rattle.level_run.specs.Levels.{core_region}
use Rattle.level_run.proofs.Shared.{core_shares}
use Rattle.level_run.proofs.hierarchy.first_systems.Goals as goal

abbrev region_by : ℕ → ℕ → ℕ → ℕ → ℕ → List Region
region_by xlo xhi ylo yhi points = record { xlo = xlo; xhi = xhi; ylo = ylo; yhi = yhi; points = range_with_len 0 points } ∷ []

same_region : (a b c d n p q r s m : ℕ) → a ≡ p → b ≡ q → c ≡ r → d ≡ s → n ≡ m → region_by a b c d n ≡ region_by p q r s m
same_region a b c d n p q r s m e f g h i = ap (λ (x : ℕ). region_by x b c d n) e ∙ ap (λ (x : ℕ). region_by p x c d n) f ∙ ap (λ (x : ℕ). region_by p q x d n) g ∙ ap (λ (x : ℕ). region_by p q r x n) h ∙ ap (region_by p q r s) i

pub systems-requires-clause-shares : goal.systems-requires-clause-shares
systems-requires-clause-shares c =
    let network = c.args.network.now in
    let core = c.core-core.ensures.core in
    let is : c.in_ok-regions.regions ≡ core_region network ∷ [] = c.in_ok-regions.ensures.region ∙ same_region c.core_end.result c.core_end-2.result c.core_end-3.result c.core_end-4.result c.points.result
    (coordinate network.core.xlo) (coordinate network.core.xhi) (coordinate network.core.ylo) (coordinate network.core.yhi) (length network.points)
    (c.core_end.ensures ∙ ap coordinate (to_z-of_z w64 c.core-core.result.xlo (search rules)) ∙ ap (λ (k : Core). coordinate k.xlo) core) (c.core_end-2.ensures ∙ ap coordinate (to_z-of_z w64 c.core-core.result.xhi (search rules)) ∙ ap (λ (k : Core). coordinate k.xhi) core) (c.core_end-3.ensures ∙ ap coordinate (to_z-of_z w64 c.core-core.result.ylo (search rules)) ∙ ap (λ (k : Core). coordinate k.ylo) core) (c.core_end-4.ensures ∙ ap coordinate (to_z-of_z w64 c.core-core.result.yhi (search rules)) ∙ ap (λ (k : Core). coordinate k.yhi) core) c.points.ensures.points in
    subst (λ (rs : List Region). AreShares (length network.points) MOST_COORDINATE rs) (sym is) (core_shares network c.core-core.ensures.valid)

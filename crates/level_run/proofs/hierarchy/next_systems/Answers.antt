use Rattle.std.proofs.Common.{◌+◌, ◌^◌, ◌<◌, cond, eqb, ℕ, List, length, sum, sym, subst}
use Rattle.relax_system.specs.declared.valid.TheConstants.{MOST_COORDINATE}
use Rattle.area_cut.specs.declared.region.Region.{Region}
use Rattle.area_cut.specs.Regions.{AreShares}
use Rattle.area_cut.specs.Cut.{cut_of}
use Rattle.level_run.specs.Rounds.{level_of}
use Rattle.level_run.proofs.Areas.{areas_fit}
use Rattle.level_run.proofs.One.{shares_after}
use Rattle.level_run.proofs.hierarchy.next_systems.Goals as goal

pub regions_after-requires-clause-fits : goal.regions_after-requires-clause-fits
regions_after-requires-clause-fits c = subst (λ (items : List ℕ). sum items < 2 ^ 64) (sym c.requires.areas) (areas_fit c.args.network.now c.points-points.ensures.valid)

pub systems-requires-clause-shares : goal.systems-requires-clause-shares
systems-requires-clause-shares c =
    let network = c.args.network.now in
    let round = c.args.round.now in
    let same = eqb (level_of c.args.passes (c.args.r + 1)) (level_of c.args.passes c.args.r) in
    let P : List Region → Type 0 = AreShares (length network.points) MOST_COORDINATE in
    let Q : List ℕ → Type 0 = λ areas. P (cond same round.regions (cut_of areas round.x.mid round.y.mid round.regions)) in
    subst P (sym c.in_ok-regions.ensures) (subst Q (sym c.requires.areas) (shares_after c.parts_share.ensures network c.args.passes c.args.r round c.requires.sane))

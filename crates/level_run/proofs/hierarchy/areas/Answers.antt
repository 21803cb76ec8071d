use Rattle.std.proofs.Common.{◌≡◌, ℕ, ◌^◌, ◌<◌, List, sum, sym, ◌∙◌, ap, subst, arith}
use Rattle.std.specs.Prelude.{map}
use Rattle.std.proofs.lemmas.List.{take_all}
use Rattle.net_model.specs.Values.{PointValue}
use Rattle.level_run.specs.Levels.{areas_of}
use Rattle.level_run.proofs.Areas.{areas_fit}
use Rattle.level_run.proofs.hierarchy.areas.Goals as goal

pub returns-clause-fits : goal.returns-clause-fits
returns-clause-fits c =
    let network = c.args.network.now in
    let counted = c.points-p-end.ensures.points in
    let is : c.loop-p.areas.items ≡ areas_of network = c.loop-p.invariant ∙ ap (map (λ (point : PointValue). point.area)) (take_all c.loop-p.p network.points (omega arith)) in
    subst (λ (items : List ℕ). sum items < 2 ^ 64) (sym is) (areas_fit network c.points-p-end.ensures.valid)

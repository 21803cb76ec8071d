use Rattle.std.proofs.Common.{ℕ, List, ◌∙◌, ap, subst}
use Rattle.net_model.specs.declared.point.NetPoint.{NetPoint}
use Rattle.net_model.specs.Forms.Steps.{IsHeavyPoint}
use Rattle.net_model.specs.Values.{point_values}
use Rattle.net_model.proofs.MakingNetwork.{points_few, points_light, first_heavy_of, none_heavy, network_is, network_net}
use Rattle.net_model.proofs.making.network_of_few.Goals as goal

pub first_heavy-requires-clause-few : goal.first_heavy-requires-clause-few
first_heavy-requires-clause-few c =
    points_few c.args.design.now c.deref.result.now c.core-core.ensures.valid (ap point_values c.deref.ensures.value ∙ c.in_ok-points.ensures)

pub first_heavy-requires-clause-light : goal.first_heavy-requires-clause-light
first_heavy-requires-clause-light c =
    points_light c.args.design.now (point_values c.deref.result.now) c.core-core.ensures.valid (ap point_values c.deref.ensures.value ∙ c.in_ok-points.ensures)

pub new-requires : goal.new-requires
new-requires c =
    let P : List NetPoint → Type 0 = λ points. (p : ℕ) → IsHeavyPoint (point_values points) p → ⊥ in
    network_net c.args.design.now (point_values c.in_ok-points.points.items) c.args.count.stars.items c.core-core.result c.core-core.ensures.valid c.in_ok-points.ensures c.requires.counted.stars c.core-core.ensures.core (subst P c.deref.ensures.value c.in-None.ensures)

pub returns-in-Some : goal.returns-in-Some
returns-in-Some c =
    (c.requires.few, first_heavy_of c.args.design.now (point_values c.deref.result.now) c.in-Some.point (ap point_values c.deref.ensures.value ∙ c.in_ok-points.ensures) c.in-Some.ensures)

pub returns-in-None : goal.returns-in-None
returns-in-None c = record {
  few = c.requires.few;
  light = none_heavy c.args.design.now (point_values c.deref.result.now) (ap point_values c.deref.ensures.value ∙ c.in_ok-points.ensures) c.in-None.ensures;
  made = c.new.ensures ∙ network_is c.args.design.now (point_values c.in_ok-points.points.items) c.args.count.stars.items c.core-core.result c.in_ok-points.ensures c.requires.counted.stars c.core-core.ensures.core;
}

use Rattle.std.proofs.Common.{◌≡◌, ℕ, ◌*◌, ◌+◌, List, [], ◌∷◌, ◌++◌, length, get_or, sym, ◌∙◌, ap, arith}
use Rattle.std.specs.Prelude.{map, sum_by}
use Rattle.net_model.specs.declared.parts.Near.{Near}
use Rattle.relax_system.specs.declared.points.Near.{Near as Neighbour}
use Rattle.area_cut.specs.Regions.{region_of}
use Rattle.level_run.specs.LevelSystem.{as_neighbour, clamped, stand_of, near_pull}
use Rattle.level_run.proofs.Outer.{inner_takes, inner_skips, outer_weight, outer_pull, outer_skips, outer_small, inside_by, outside_by, stands_at}
use Rattle.level_run.proofs.projection.near_parts.Goals as goal
use Rattle.level_run.proofs.projection.near_parts.Goals.{then-other-home+in_ok-push, else-other-home}

abbrev no_near : Near
no_near = record { point = 0; weight = 0 }

pub overflow_add-anchor : goal.overflow_add-anchor
overflow_add-anchor c =
    let regions = c.args.regions.now in
    let near = c.args.near.now in
    let i = c.loop-entry.entry-index in
    let x = get_or near i no_near in
    let x_there = c.requires.points i no_near (omega arith) in
    let elsewhere = outside_by (length c.args.mids.now) regions c.args.homes.now c.args.p x c.requires.homes c.requires.there x_there c.if-other-home.false in
    let more = outer_weight regions c.args.p near i no_near (omega arith) elsewhere in
    let bound = outer_small c.args.axis regions c.args.mids.now c.args.p near (i + 1) c.requires.range c.requires.light in
    let weight = bound.weight in
    let so_far = c.loop-entry.invariant.anchor in
    omega arith

pub overflow_add-pull : goal.overflow_add-pull
overflow_add-pull c =
    let regions = c.args.regions.now in
    let near = c.args.near.now in
    let i = c.loop-entry.entry-index in
    let x = get_or near i no_near in
    let x_there = c.requires.points i no_near (omega arith) in
    let elsewhere = outside_by (length c.args.mids.now) regions c.args.homes.now c.args.p x c.requires.homes c.requires.there x_there c.if-other-home.false in
    let more = outer_pull c.args.axis regions c.args.mids.now c.args.p near i no_near (omega arith) elsewhere in
    let bound = outer_small c.args.axis regions c.args.mids.now c.args.p near (i + 1) c.requires.range c.requires.light in
    let pull = bound.pull in
    let so_far = c.loop-entry.invariant.pull in
    let place = stands_at c.args.axis (length c.args.mids.now) regions c.args.homes.now c.args.mids.now c.args.p x.point c.index-regions-home.result c.index-regions-other.result c.clamped-stand.result c.clamped.result c.requires.homes c.requires.there x_there c.index-regions-home.is c.index-regions-other.is c.clamped-stand.ensures c.clamped.ensures in
    let product : c.from.result * c.from-else-other-home.result ≡ x.weight * clamped c.args.axis (region_of regions c.args.p) (stand_of c.args.axis regions c.args.mids.now x.point) = ap (λ (w : ℕ). w * c.from-else-other-home.result) c.from.ensures ∙ ap (λ (a : ℕ). x.weight * a) (c.from-else-other-home.ensures ∙ place) in
    omega arith

pub loop-entry-preserved : goal.loop-entry-preserved
loop-entry-preserved c =
    let regions = c.args.regions.now in
    let near = c.args.near.now in
    let i = c.loop-entry.entry-index in
    let x = get_or near i no_near in
    let x_there = c.requires.points i no_near (omega arith) in
    let variables_so_far = c.loop-entry.invariant.variables in
    let weight_so_far = c.loop-entry.invariant.anchor in
    let pull_so_far = c.loop-entry.invariant.pull in
    elim c.if-other-home.branch [
      | then-other-home+in_ok-push w ↦
          let here = inside_by (length c.args.mids.now) regions c.args.homes.now c.args.p x c.requires.homes c.requires.there x_there w.if-other-home.true in
          let same = outer_skips regions c.args.p near i no_near (omega arith) here in
          record {
            variables = w.variables-is ∙ w.in_ok-push.ensures.pushed ∙ ap (λ (ns : List Neighbour). ns ++ as_neighbour x ∷ []) variables_so_far ∙ sym (inner_takes regions c.args.p near i no_near (omega arith) here);
            anchor = w.anchor-is ∙ weight_so_far ∙ sym (ap (sum_by (λ (n : Near). n.weight)) same);
            pull = w.pull-is ∙ pull_so_far ∙ sym (ap (near_pull c.args.axis regions c.args.mids.now (region_of regions c.args.p)) same);
          }
      | else-other-home w ↦
          let elsewhere = outside_by (length c.args.mids.now) regions c.args.homes.now c.args.p x c.requires.homes c.requires.there x_there w.if-other-home.false in
          let weight = outer_weight regions c.args.p near i no_near (omega arith) elsewhere in
          let pull = outer_pull c.args.axis regions c.args.mids.now c.args.p near i no_near (omega arith) elsewhere in
          let place = stands_at c.args.axis (length c.args.mids.now) regions c.args.homes.now c.args.mids.now c.args.p x.point c.index-regions-home.result w.index-regions-other.result w.clamped-stand.result w.clamped.result c.requires.homes c.requires.there x_there c.index-regions-home.is w.index-regions-other.is w.clamped-stand.ensures w.clamped.ensures in
          let product : w.from.result * w.from-else-other-home.result ≡ x.weight * clamped c.args.axis (region_of regions c.args.p) (stand_of c.args.axis regions c.args.mids.now x.point) = ap (λ (v : ℕ). v * w.from-else-other-home.result) w.from.ensures ∙ ap (λ (a : ℕ). x.weight * a) (w.from-else-other-home.ensures ∙ place) in
          record {
            variables = w.variables-is ∙ variables_so_far ∙ sym (ap (map as_neighbour) (inner_skips regions c.args.p near i no_near (omega arith) elsewhere));
            anchor = omega (arith, w.anchor-is);
            pull = omega (arith, w.pull-is);
          }
    ]

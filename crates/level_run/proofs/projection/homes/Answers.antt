use Rattle.std.proofs.Common.{ℕ, ◌<◌, List, get_or, cond, eqb, sym, ◌∙◌, ap, subst, arith}
use Rattle.std.specs.Prelude.{All}
use Rattle.std.specs.List.{list_any}
use Rattle.area_cut.specs.declared.region.Region.{Region}
use Rattle.level_run.proofs.Outer.{are_points, homes_more}
use Rattle.level_run.proofs.projection.homes.Goals as goal

pub settle-requires : goal.settle-requires
settle-requires c =
    let k = c.loop-number.number in
    let region = c.index-regions-number.result in
    let there = are_points c.args.points c.args.regions.now k region (c.points_have_homes.ensures c.args.points c.args.regions.now c.requires) (omega arith) in
    let long = c.loop-number.invariant.long in
    let by_region = subst (λ (r : Region). All (λ p. p < c.args.points) r.points) (sym c.index-regions-number.is) there in
    let by_slice = subst (λ (ps : List ℕ). All (λ p. p < c.args.points) ps) (sym c.as_slice.ensures) by_region in
    λ j d inside. omega (arith, by_slice j d inside, c.loop-number.homes.ok)

pub loop-number-preserved : goal.loop-number-preserved
loop-number-preserved c =
    let k = c.loop-number.number in
    let region = c.index-regions-number.result in
    let long = c.loop-number.invariant.long in
    let written = λ (p : ℕ). c.settle.ensures.settled p ∙ ap (λ (ps : List ℕ). cond (list_any (eqb p) ps) k (get_or c.loop-number.homes.items p 0)) (c.as_slice.ensures ∙ ap (λ (r : Region). r.points) c.index-regions-number.is) in
    record {
      long = omega (arith, c.settle.ensures.long, c.settle.new.homes.ok, c.loop-number.homes.ok);
      each = homes_more c.args.points c.args.regions.now k region c.loop-number.homes.items c.settle.new.homes.items (c.points_have_homes.ensures c.args.points c.args.regions.now c.requires) (omega arith) c.loop-number.invariant.each written;
    }

pub returns : goal.returns
returns c =
    let long = c.loop-number.invariant.long in
    let homes = c.points_have_homes.ensures c.args.points c.args.regions.now c.requires in
    record {
      all = long;
      each = λ p there. c.loop-number.invariant.each p there (let home = homes.there p there in omega arith);
      there = homes.there;
    }

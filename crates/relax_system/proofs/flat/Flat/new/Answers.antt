use Rattle.std.proofs.Common.{◌≡◌, arith, rules, ◌∙◌}
use Rattle.relax_system.specs.System.{point_at, total_weight}
use Rattle.relax_system.proofs.Rows.{IsFlat_more}
use Rattle.relax_system.proofs.flat.Flat.new.Goals as goal

pub loop-i-preserved : goal.loop-i-preserved
loop-i-preserved c =
    let light = (c.points-i-end.ensures.valid.each c.loop-i.i (omega arith)).light in
    let total : c.total_weight.result ≡ total_weight (point_at c.args.system.now c.loop-i.i) = c.total_weight.ensures ∙ rw c.point-point.ensures.point (omega (arith, light)) in
    IsFlat_more c.args.system.now c.loop-i.i _ _ _ _ _ _ _ _ _ _ c.loop-i.invariant (omega arith) (record {
      begun = search rules;
      numbered = search rules;
      weighted = search rules;
      summed = rw (← total) (search rules);
      pulled = search rules;
    })

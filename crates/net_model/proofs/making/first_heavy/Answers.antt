use Rattle.std.proofs.Common.{arith, below_more}
use Rattle.net_model.proofs.MakingPoints.{light_at, not_heavy}
use Rattle.net_model.proofs.making.first_heavy.Goals as goal

pub total_weight-requires : goal.total_weight-requires
total_weight-requires c = light_at c.args.points.now c.loop-p.p c.index-points-p.result c.loop-p-test.true c.index-points-p.is c.requires.light

pub loop-p-preserved : goal.loop-p-preserved
loop-p-preserved c =
    below_more _ _ c.loop-p.invariant (not_heavy c.args.points.now c.loop-p.p c.index-points-p.result c.loop-p-test.true c.index-points-p.is (omega (arith, c.if-total_weight-gt-MOST_WEIGHT.false, c.total_weight.ensures)))

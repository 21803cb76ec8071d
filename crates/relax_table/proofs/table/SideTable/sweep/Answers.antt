use Rattle.std.proofs.Common.{◌<◌, length, arith}
use Rattle.relax_table.proofs.Sweeps.{swept_more}
use Rattle.relax_table.proofs.table.SideTable.sweep.Goals as goal

pub loop-i-preserved : goal.loop-i-preserved
loop-i-preserved g c =
    let there : c.loop-i.i < length c.args.self.now.system = omega (arith, c.requires.within, c.loop-i-test.true) in
    rw c.either-moved.ensures (swept_more g.D.Direction.side c.args.self.now c.args.from c.loop-i.i c.args.seat.now c.loop-i.seat c.relax_side.new.seat c.args.steps.now c.loop-i.steps c.relax_side.new.steps c.loop-i.moved c.relax_side.result.moved
    c.loop-i.invariant (omega arith) there c.relax_side.ensures.own c.relax_side.ensures.advances (c.relax_side.ensures.counts.0, c.relax_side.ensures.counts.1) c.relax_side.ensures.quiet c.relax_side.ensures.moved c.relax_side.ensures.counts.3 c.relax_side.ensures.points)

use Rattle.std.proofs.Common.{arith}
use Rattle.relax_table.proofs.Ranges.{once_none, once_more}
use Rattle.relax_crew.proofs.crew.first_sweep.Goals as goal

pub loop-i-init : goal.loop-i-init
loop-i-init g c = (c.requires.own, once_none c.args.table.now.system c.args.range.0 c.args.seat.now)

pub loop-i-preserved : goal.loop-i-preserved
loop-i-preserved g c = (
  c.relax_side.ensures.own,
  once_more c.args.table.now.system c.args.range.0 c.loop-i.i c.args.seat.now c.loop-i.seat c.relax_side.new.seat (omega arith) c.loop-i.invariant.1 c.relax_side.ensures.points,
)

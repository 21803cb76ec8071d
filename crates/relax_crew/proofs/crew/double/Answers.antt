use Rattle.std.proofs.Common.{arith}
use Rattle.relax_crew.proofs.Doubling.{double_all}
use Rattle.relax_crew.proofs.crew.double.Goals as goal

pub returns : goal.returns
returns c = double_all c.args.side c.args.system.now c.args.v.now.items c.loop-i.v.items c.loop-i.i c.requires.all (omega (arith, c.loop-i.invariant.all)) c.loop-i.invariant

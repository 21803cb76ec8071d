use Rattle.relax_system.specs.Forms.Way.{IsOnWay, room}
use Rattle.relax_system.proofs.plain.solve.Given as goal

abbrev pub invariant-sweeps : goal.invariant-sweeps
invariant-sweeps l = IsOnWay l.side l.system l.items.items

abbrev pub decreases-sweeps : goal.decreases-sweeps
decreases-sweeps l = room l.side l.system l.items.items

use Rattle.relax_system.specs.Sides.{distance}
use Rattle.relax_table.specs.Seats.{sweep_steps}
use Rattle.relax_table.proofs.Ranges.{HasBegun}
use Rattle.relax_table.proofs.Sweeps.{IsSettling, ends_of}
use Rattle.relax_table.proofs.table.SideTable.settle_side.Given as goal

abbrev pub invariant-sweeps : goal.invariant-sweeps
invariant-sweeps g l = IsSettling g.D.Direction.side l.self (sweep_steps l.self.system l.from l.to) l.initial.seat l.seat l.initial.steps l.steps × HasBegun l.self.system l.from l.to l.initial.seat l.seat

abbrev pub decreases-sweeps : goal.decreases-sweeps
decreases-sweeps g l = distance g.D.Direction.side l.seat.seen (ends_of g.D.Direction.side l.self.system)

use Rattle.relax_table.proofs.Sweeps.{IsSweptTo}
use Rattle.relax_table.proofs.table.SideTable.sweep.Given as goal

abbrev pub invariant-loop-i : goal.invariant-loop-i
invariant-loop-i g l = IsSweptTo g.D.Direction.side l.self l.from l.i l.initial.seat l.seat l.initial.steps l.steps l.moved

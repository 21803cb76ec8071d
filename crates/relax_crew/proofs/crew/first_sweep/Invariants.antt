use Rattle.relax_table.specs.Seats.{IsSeatOf}
use Rattle.relax_table.specs.Forms.Sweep.{SweepsOnce}
use Rattle.relax_crew.proofs.crew.first_sweep.Given as goal

abbrev pub invariant-loop-i : goal.invariant-loop-i
invariant-loop-i g l = IsSeatOf l.table l.seat × SweepsOnce l.table.system l.from l.i l.initial.seat l.seat

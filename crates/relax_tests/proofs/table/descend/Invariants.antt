use Rattle.relax_table.specs.Seats.{IsSeatOf}
use Rattle.relax_tests.proofs.table.descend.Given as goal

abbrev pub invariant-loop-act : goal.invariant-loop-act
invariant-loop-act g l = IsSeatOf l.table l.seat

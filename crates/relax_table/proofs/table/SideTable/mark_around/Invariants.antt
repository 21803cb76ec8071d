use Rattle.std.proofs.Common.{◌≡◌}
use Rattle.relax_table.proofs.table.SideTable.mark_around.Given as goal

abbrev pub invariant-loop-entry : goal.invariant-loop-entry
invariant-loop-entry g l = l.seat ≡ l.initial.seat

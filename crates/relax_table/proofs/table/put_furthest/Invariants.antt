use Rattle.relax_table.proofs.Vectors.{IsPutTo}
use Rattle.relax_table.proofs.table.put_furthest.Given as goal

abbrev pub invariant-loop-i : goal.invariant-loop-i
invariant-loop-i g l = IsPutTo g.D.Direction.side l.initial.seen.items l.others l.seen.items l.i

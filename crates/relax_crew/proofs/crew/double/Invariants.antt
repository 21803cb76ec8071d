use Rattle.relax_crew.proofs.Doubling.{IsDoubledTo}
use Rattle.relax_crew.proofs.crew.double.Given as goal

abbrev pub invariant-loop-i : goal.invariant-loop-i
invariant-loop-i l = IsDoubledTo l.side l.system l.initial.v.items l.v.items l.i

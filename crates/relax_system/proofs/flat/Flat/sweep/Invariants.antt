use Rattle.relax_system.proofs.Sweeping.{IsSwept}
use Rattle.relax_system.proofs.flat.Flat.sweep.Given as goal

abbrev pub invariant-loop-i : goal.invariant-loop-i
invariant-loop-i l = IsSwept l.side l.self l.initial.v l.v l.moved l.i

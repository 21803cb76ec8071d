use Rattle.std.proofs.Common.{◌≡◌, take}
use Rattle.relax_system.specs.Sides.{starts_of}
use Rattle.relax_world.proofs.world.starts.Given as goal

abbrev pub invariant-loop-i : goal.invariant-loop-i
invariant-loop-i l = l.start.items ≡ starts_of l.side (take l.i l.system)

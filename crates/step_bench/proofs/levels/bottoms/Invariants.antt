use Rattle.std.proofs.Common.{◌≡◌, take}
use Rattle.relax_system.specs.declared.side.Side.TheVariants.{Floor}
use Rattle.relax_system.specs.Sides.{starts_of}
use Rattle.step_bench.proofs.levels.bottoms.Given as goal

abbrev pub invariant-loop-i : goal.invariant-loop-i
invariant-loop-i l = l.start.items ≡ starts_of Floor (take l.i l.system)

use Rattle.std.proofs.Common.{take}
use Rattle.relax_system.specs.Forms.Flat.{IsFlat}
use Rattle.relax_system.proofs.flat.Flat.new.Given as goal

abbrev pub invariant-loop-i : goal.invariant-loop-i
invariant-loop-i l = IsFlat (take l.i l.system) l.starts.items l.numbers.items l.weights.items l.totals.items l.anchored.items

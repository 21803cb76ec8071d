use Rattle.std.proofs.Common.{◌≡◌, ◌+◌, take}
use Rattle.relax_system.specs.System.{near_weight}
use Rattle.fix_cert.proofs.reading.total_weight.Given as goal

abbrev pub invariant-loop-entry : goal.invariant-loop-entry
invariant-loop-entry l = l.sum ≡ l.point.anchor + near_weight (take l.entry-index l.entry-items)

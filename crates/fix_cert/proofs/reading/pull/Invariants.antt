use Rattle.std.proofs.Common.{◌≡◌, ◌+◌, take}
use Rattle.relax_system.specs.Means.{weighted_sum}
use Rattle.fix_cert.proofs.reading.pull.Given as goal

abbrev pub invariant-loop-entry : goal.invariant-loop-entry
invariant-loop-entry l = l.sum ≡ weighted_sum (take l.entry-index l.entry-items) l.v + l.point.anchored

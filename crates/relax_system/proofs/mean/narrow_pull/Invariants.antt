use Rattle.std.proofs.Common.{◌≡◌, ◌+◌, take}
use Rattle.relax_system.specs.Means.{weighted_sum}
use Rattle.relax_system.proofs.mean.narrow_pull.Given as goal

abbrev pub invariant-loop-entry : goal.invariant-loop-entry
invariant-loop-entry l = l.sum ≡ weighted_sum (take l.entry-index l.near) l.v + l.anchored

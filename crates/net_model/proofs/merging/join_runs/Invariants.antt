use Rattle.net_model.proofs.MergingRuns.{JoinsRuns}
use Rattle.net_model.proofs.merging.join_runs.Given as goal

abbrev pub invariant-loop-i : goal.invariant-loop-i
invariant-loop-i l = JoinsRuns l.fn.near l.near l.i l.last

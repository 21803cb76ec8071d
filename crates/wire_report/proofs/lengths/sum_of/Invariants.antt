use Rattle.std.proofs.Common.{take}
use Rattle.wire_report.specs.Forms.Sums.{IsSumOf}
use Rattle.wire_report.proofs.lengths.sum_of.Given as goal

abbrev pub invariant-loop-net : goal.invariant-loop-net
invariant-loop-net l = IsSumOf l.design l.corners (take l.net-index l.nets) l.sum

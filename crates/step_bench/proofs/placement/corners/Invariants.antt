use Rattle.std.proofs.Common.{◌≡◌, length}
use Rattle.std.specs.Prelude.{All}
use Rattle.wire_report.specs.Wire.{IsNearCorner}
use Rattle.step_bench.proofs.placement.corners.Given as goal

abbrev pub invariant-loop-node : goal.invariant-loop-node
invariant-loop-node l = (length l.corners.items ≡ l.node-index) × All IsNearCorner l.corners.items

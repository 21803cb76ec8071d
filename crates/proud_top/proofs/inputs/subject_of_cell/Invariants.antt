use Rattle.std.proofs.Common.{◌≡◌, ◌+◌}
use Rattle.book_design.specs.Values.{node_values}
use Rattle.book_design.specs.Points.{movable_before}
use Rattle.proud_top.proofs.inputs.subject_of_cell.Given as goal

-- how many movable nodes are still to be passed
abbrev pub invariant-loop-node : goal.invariant-loop-node
invariant-loop-node l = movable_before (node_values l.nodes) l.node-index + l.left ≡ l.cell

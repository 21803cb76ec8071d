use Rattle.std.proofs.Common.{◌-◌, length}
use Rattle.book_design.specs.Values.{node_value}
use Rattle.row_space.proofs.Marking.{IsMarking}
use Rattle.row_space.proofs.marks.mark_node.Given as goal

abbrev pub invariant-tiers : goal.invariant-tiers
invariant-tiers l = IsMarking l.design (node_value l.node) l.tiers l.fn.marks.items l.marks.items l.at

abbrev pub decreases-tiers : goal.decreases-tiers
decreases-tiers l = length l.tiers - l.at

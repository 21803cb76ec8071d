use Rattle.book_design.specs.Values.{node_values}
use Rattle.book_design.specs.Forms.Assembly.{ArePoints}
use Rattle.book_design.proofs.design.point_lists.Given as goal

abbrev pub invariant-loop-i : goal.invariant-loop-i
invariant-loop-i l = ArePoints (node_values l.nodes) l.i l.movable.items l.numbers.items

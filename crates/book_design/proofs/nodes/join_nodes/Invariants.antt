use Rattle.book_design.proofs.Placing.{ArePlaced}
use Rattle.book_design.proofs.nodes.join_nodes.Given as goal

abbrev pub invariant-loop-i : goal.invariant-loop-i
invariant-loop-i l = ArePlaced l.records l.i l.nodes.items

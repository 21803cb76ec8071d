use Rattle.row_space.specs.Forms.Marks.{AreMarks}
use Rattle.row_space.proofs.marks.marks.Given as goal

abbrev pub invariant-loop-node : goal.invariant-loop-node
invariant-loop-node l = AreMarks l.design l.node-index l.marks.items

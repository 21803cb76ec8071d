use Rattle.std.proofs.Common.{ℕ, ◌<◌}
use Rattle.book_design.specs.Values.{node_values}
use Rattle.book_design.specs.Forms.Counts.{IsHigher}
use Rattle.book_design.proofs.counts.tall_node.Given as goal

abbrev pub invariant-loop-i : goal.invariant-loop-i
invariant-loop-i l = (j : ℕ) → j < l.i → IsHigher (node_values l.nodes) l.shape.height j → ⊥

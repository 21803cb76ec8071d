use Rattle.book_design.specs.Forms.Sources.{records_of}
use Rattle.book_design.proofs.Looking.{AreDistinctNumbers}
use Rattle.book_design.proofs.numbers.node_numbers.Given as goal

abbrev pub invariant-loop-i : goal.invariant-loop-i
invariant-loop-i l = AreDistinctNumbers (records_of l.records) l.i l.numbers

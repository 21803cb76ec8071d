use Rattle.book_design.specs.Forms.Parts.{outlines}
use Rattle.book_design.specs.Forms.Sources.{records_of}
use Rattle.book_design.proofs.RowsLaid.{AreLaid}
use Rattle.book_design.proofs.rows.lay_strips.Given as goal

abbrev pub invariant-loop-i : goal.invariant-loop-i
invariant-loop-i l = AreLaid (outlines (records_of l.records)) (records_of l.records).rows l.i l.strips.items

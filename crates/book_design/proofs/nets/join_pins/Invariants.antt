use Rattle.book_design.specs.Forms.Sources.{records_of}
use Rattle.book_design.proofs.Netting.{ArePinned}
use Rattle.book_design.proofs.nets.join_pins.Given as goal

abbrev pub invariant-loop-line : goal.invariant-loop-line
invariant-loop-line l = ArePinned (records_of l.records) l.lines l.line-index l.pins.items

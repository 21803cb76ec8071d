use Rattle.book_design.specs.Forms.Numbers.{AreNumbers}
use Rattle.book_design.specs.Forms.Sources.{records_of, place_name}
use Rattle.book_design.proofs.numbers.place_numbers.Given as goal

abbrev pub invariant-loop-i : goal.invariant-loop-i
invariant-loop-i l = AreNumbers (place_name (records_of l.records)) l.i l.numbers

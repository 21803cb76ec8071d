use Rattle.book_files.specs.Entries.{weight_entries}
use Rattle.book_design.specs.Forms.Numbers.{AreNumbers}
use Rattle.book_design.specs.Forms.Sources.{entry_name}
use Rattle.book_design.proofs.numbers.line_numbers.Given as goal

abbrev pub invariant-loop-i : goal.invariant-loop-i
invariant-loop-i l = AreNumbers (entry_name (weight_entries l.lines)) l.i l.numbers

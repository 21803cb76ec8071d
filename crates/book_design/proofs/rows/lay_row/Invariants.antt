use Rattle.std.proofs.Common.{◌≡◌, ◌++◌, map, take}
use Rattle.book_files.specs.Entries.{subrow_entry}
use Rattle.book_files.specs.Blocks.{row_entry}
use Rattle.book_design.specs.Records.{strip_of}
use Rattle.book_design.specs.Forms.Parts.{outline}
use Rattle.book_design.proofs.rows.lay_row.Given as goal

abbrev pub invariant-loop-subrow : goal.invariant-loop-subrow
invariant-loop-subrow l =
    l.strips.items ≡ l.initial.strips.items ++ map (λ line. outline (strip_of l.number (row_entry l.row) (subrow_entry line))) (take l.subrow-index l.subrow-items)

use Rattle.std.proofs.Common.{ℕ, ◌<◌}
use Rattle.book_design.specs.Faults.{IsMixedRow}
use Rattle.book_design.specs.Forms.Sources.{records_of}
use Rattle.book_design.proofs.rows.mixed_row.Given as goal

abbrev pub invariant-loop-i : goal.invariant-loop-i
invariant-loop-i l = (r : ℕ) → r < l.i → IsMixedRow (records_of l.records) r → ⊥

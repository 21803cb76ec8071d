use Rattle.std.proofs.Common.{ℕ, ◌<◌}
use Rattle.book_design.specs.Forms.ValueLimits.{IsHigh}
use Rattle.book_design.specs.Forms.Sources.{records_of}
use Rattle.book_design.proofs.limits.high_row.Given as goal

abbrev pub invariant-loop-i : goal.invariant-loop-i
invariant-loop-i l = (r : ℕ) → r < l.i → IsHigh (records_of l.records) r → ⊥

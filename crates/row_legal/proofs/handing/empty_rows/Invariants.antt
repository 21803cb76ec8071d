use Rattle.std.proofs.Common.{◌≡◌, ℕ, ◌<◌, [], length}
use Rattle.row_legal.specs.Forms.Rows.{row_at}
use Rattle.row_legal.proofs.handing.empty_rows.Given as goal

abbrev pub invariant-loop-s : goal.invariant-loop-s
invariant-loop-s l = record { all : length l.rows.items ≡ l._s; each : (s : ℕ) → s < l._s → row_at l.rows.items s ≡ [] }

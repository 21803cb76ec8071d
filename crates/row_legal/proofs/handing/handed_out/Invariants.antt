use Rattle.std.proofs.Common.{◌≡◌, ℕ, ◌<◌, length, take}
use Rattle.row_legal.specs.Forms.Rows.{choices_at, row_at}
use Rattle.row_legal.proofs.handing.handed_out.Given as goal

-- the first choices are handed out
abbrev pub invariant-loop-choice : goal.invariant-loop-choice
invariant-loop-choice l = record {
  all : length l.rows.items ≡ l.segments;
  each : (s : ℕ) → s < l.segments → row_at l.rows.items s ≡ choices_at (take l.choice-index l.choices) s;
}

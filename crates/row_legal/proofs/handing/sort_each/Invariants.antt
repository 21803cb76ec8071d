use Rattle.std.proofs.Common.{◌≡◌, ℕ, ◌<◌, ◌≤◌, length}
use Rattle.row_legal.specs.Forms.Rows.{IsSortOf, row_at}
use Rattle.row_legal.proofs.handing.sort_each.Given as goal

-- the first rows are in order, and those from here on as they were
abbrev pub invariant-loop-s : goal.invariant-loop-s
invariant-loop-s l = record {
  all : length l.rows.items ≡ length l.fn.rows.items;
  done : (t : ℕ) → t < l.s → IsSortOf (row_at l.fn.rows.items t) (row_at l.rows.items t);
  left : (t : ℕ) → l.s ≤ t → row_at l.rows.items t ≡ row_at l.fn.rows.items t;
}

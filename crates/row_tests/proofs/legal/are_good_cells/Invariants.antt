use Rattle.std.proofs.Common.{ℕ, ◌<◌, ◌≤◌}
use Rattle.row_legal.specs.declared.rules.TheConstants.{MOST_CELL_SITES}
use Rattle.row_legal.specs.Cells.{cells_of, sites_at, wish_at}
use Rattle.row_legal.specs.Ranges.{IsNear}
use Rattle.row_tests.proofs.legal.are_good_cells.Given as goal

abbrev pub invariant-loop-c : goal.invariant-loop-c
invariant-loop-c l = record {
  some : (k : ℕ) → k < l.c → 1 ≤ sites_at (cells_of l.sites l.wishes) k;
  most : (k : ℕ) → k < l.c → sites_at (cells_of l.sites l.wishes) k ≤ MOST_CELL_SITES;
  x : (k : ℕ) → k < l.c → IsNear (wish_at (cells_of l.sites l.wishes) k).x;
  y : (k : ℕ) → k < l.c → IsNear (wish_at (cells_of l.sites l.wishes) k).y;
}

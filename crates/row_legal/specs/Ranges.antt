-- What the rule may take for granted of cells.
use Rattle.std.specs.Prelude.{◌≡◌, ℕ, ◌<◌, ◌≤◌, length, ℤ, neg_ℤ, ◌≤ℤ◌}
use Rattle.row_legal.specs.declared.rules.TheConstants.{MOST_CELLS, MOST_CELL_SITES, MOST_WISH}
use Rattle.row_legal.specs.Cells.{CellsValue, count, sites_at, wish_at}

-- a coordinate that may be wished
pub record IsNear (z : ℤ) : Type 0 where
  pub low : neg_ℤ MOST_WISH ≤ℤ z
  pub high : z ≤ℤ MOST_WISH

-- what a caller keeps of the cells
pub record AreGoodCells (cells : CellsValue) : Type 0 where
  pub same : length cells.wishes ≡ length cells.sites
  pub few : count cells ≤ MOST_CELLS
  pub some : (c : ℕ) → c < count cells → 1 ≤ sites_at cells c
  pub most : (c : ℕ) → c < count cells → sites_at cells c ≤ MOST_CELL_SITES
  pub x : (c : ℕ) → c < count cells → IsNear (wish_at cells c).x
  pub y : (c : ℕ) → c < count cells → IsNear (wish_at cells c).y

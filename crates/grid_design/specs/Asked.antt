-- The grid that a word asks for.
use Rattle.std.specs.Prelude.{◌≡◌, ℕ, ◌<◌, ◌≤◌, ◌^◌, List, ◌++◌, codes, decimal}
use Rattle.grid_design.specs.declared.asked.Grid.{Grid}
use Rattle.grid_design.specs.declared.asked.TheConstants.{MOST_SIDE}

-- a number of rows or of columns that a grid may have
abbrev pub IsSide : ℕ → Type 0
IsSide side = (1 ≤ side) × (side ≤ MOST_SIDE)

-- The word asks for the grid: its rows, columns and number, each as its decimal without zeros in front, and one comma between
-- each two.
pub record IsGridWord (word : List ℕ) (grid : Grid) : Type 0 where
  pub rows : IsSide grid.rows
  pub columns : IsSide grid.columns
  pub number : grid.number < 2 ^ 64
  pub is_text : word ≡ decimal grid.rows ++ codes "," ++ decimal grid.columns ++ codes "," ++ decimal grid.number

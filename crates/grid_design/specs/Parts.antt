-- The nodes and the nets of a grid's design, in order.
use Rattle.std.specs.Prelude.{ℕ, ◌+◌, ◌-◌, ◌*◌, List, ◌++◌, map, flat_map, codes, decimal}
use Rattle.std.specs.List.{range_with_len}
use Rattle.grid_design.specs.declared.asked.Grid.{Grid}
use Rattle.grid_design.specs.declared.parts.Side.{Side}
use Rattle.grid_design.specs.declared.parts.Side.TheVariants.{Left, Right, Bottom, Top}
use Rattle.grid_design.specs.declared.parts.Node.{Node}
use Rattle.grid_design.specs.declared.parts.Node.TheVariants.{Cell, Terminal}
use Rattle.grid_design.specs.declared.parts.Net.{Net}

-- the cell in a row and a column
abbrev pub cell_at : Grid → ℕ → ℕ → Node
cell_at grid row column = Cell (row * grid.columns + column)

-- the cell beside the terminal of this number on a side
abbrev pub cell_beside : Grid → Side → ℕ → Node
cell_beside grid Left row = cell_at grid row 0
cell_beside grid Right row = cell_at grid row (grid.columns - 1)
cell_beside grid Bottom column = cell_at grid 0 column
cell_beside grid Top column = cell_at grid (grid.rows - 1) column

abbrev pub letter : Side → List ℕ
letter Left = codes "l"
letter Right = codes "r"
letter Bottom = codes "b"
letter Top = codes "t"

-- a node's name: a letter and its number
abbrev pub name_of : Node → List ℕ
name_of (Cell number) = codes "c" ++ decimal number
name_of (Terminal side number) = letter side ++ decimal number

-- the terminals of a side
abbrev pub terminals_of : Side → ℕ → List Node
terminals_of side count = map (Terminal side) (range_with_len 0 count)

-- how many cells and how many terminals there are: a cell for each row and column, and a terminal at each end of a row and of a column
abbrev pub cell_count : Grid → ℕ
cell_count grid = grid.rows * grid.columns

abbrev pub terminal_count : Grid → ℕ
terminal_count grid = 2 * grid.rows + 2 * grid.columns

-- the cells by their numbers; then the terminals of the left, the right, the bottom and the top
abbrev pub nodes_of : Grid → List Node
nodes_of grid = map Cell (range_with_len 0 (cell_count grid)) ++ terminals_of Left grid.rows ++ terminals_of Right grid.rows ++ terminals_of Bottom grid.columns ++ terminals_of Top grid.columns

-- a net of two pins
abbrev pub net_of : Node → Node → Net
net_of first second = record { first = first; second = second }

-- the nets of a row: each cell but the last with the one to its right
abbrev pub nets_along : Grid → ℕ → List Net
nets_along grid row = map (λ column. net_of (cell_at grid row column) (cell_at grid row (column + 1))) (range_with_len 0 (grid.columns - 1))

-- the nets between a row and the next: each cell with the one above it
abbrev pub nets_across : Grid → ℕ → List Net
nets_across grid row = map (λ column. net_of (cell_at grid row column) (cell_at grid (row + 1) column)) (range_with_len 0 grid.columns)

-- the nets of a side: each terminal with the cell beside it
abbrev pub nets_beside : Grid → Side → ℕ → List Net
nets_beside grid side count = map (λ number. net_of (Terminal side number) (cell_beside grid side number)) (range_with_len 0 count)

-- the nets in order
abbrev pub nets_of : Grid → List Net
nets_of grid = flat_map (nets_along grid) (range_with_len 0 grid.rows) ++ flat_map (nets_across grid) (range_with_len 0 (grid.rows - 1))
    ++ nets_beside grid Left grid.rows ++ nets_beside grid Right grid.rows ++ nets_beside grid Bottom grid.columns ++ nets_beside grid Top grid.columns

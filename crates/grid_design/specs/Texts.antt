-- The five texts of a grid's design.
use Rattle.std.specs.Prelude.{◌≡◌, ℕ, ◌+◌, ◌*◌, ◌/◌, List, [], ◌∷◌, ◌++◌, length, flat_map, codes, decimal}
use Rattle.std.specs.List.{range_with_len}
use Rattle.book_text.specs.Lines.{spaced}
use Rattle.grid_design.specs.declared.asked.Grid.{Grid}
use Rattle.grid_design.specs.declared.parts.Side.{Side}
use Rattle.grid_design.specs.declared.parts.Side.TheVariants.{Left, Right, Bottom, Top}
use Rattle.grid_design.specs.declared.parts.Node.{Node}
use Rattle.grid_design.specs.declared.parts.Node.TheVariants.{Cell, Terminal}
use Rattle.grid_design.specs.declared.parts.Net.{Net}
use Rattle.grid_design.specs.declared.parts.TheConstants.{CELL_WIDTH, ROW_HEIGHT, COLUMN_SITES}
use Rattle.grid_design.specs.declared.design.Texts.{Texts}
use Rattle.grid_design.specs.Parts.{name_of, cell_count, terminal_count, nodes_of, nets_of}
use Rattle.grid_design.specs.Weights.{weight_of}

-- the words with one blank between each two, and the line's end
abbrev pub line_of : List (List ℕ) → List ℕ
line_of words = spaced words ++ 10 ∷ []

-- `UCLA KIND 1.0`
abbrev pub header : List ℕ → List ℕ
header kind = line_of (codes "UCLA" ∷ kind ∷ codes "1.0" ∷ [])

-- `KEY : VALUE`
abbrev pub stated : List ℕ → ℕ → List ℕ
stated key value = line_of (key ∷ codes ":" ∷ decimal value ∷ [])

-- `NAME WIDTH HEIGHT`, and `terminal` behind it for a terminal, which has no area
abbrev pub node_line : Node → List ℕ
node_line (Cell number) = line_of (name_of (Cell number) ∷ decimal CELL_WIDTH ∷ decimal ROW_HEIGHT ∷ [])
node_line (Terminal side number) = line_of (name_of (Terminal side number) ∷ codes "0" ∷ codes "0" ∷ codes "terminal" ∷ [])

abbrev pub nodes_text : Grid → List ℕ
nodes_text grid = header (codes "nodes") ++ stated (codes "NumNodes") (cell_count grid + terminal_count grid) ++ stated (codes "NumTerminals") (terminal_count grid)
    ++ flat_map node_line (nodes_of grid)

-- `NAME B`
abbrev pub pin_line : Node → List ℕ
pin_line node = line_of (name_of node ∷ codes "B" ∷ [])

-- a net's name: n and its number
abbrev pub net_name : ℕ → List ℕ
net_name number = codes "n" ++ decimal number

-- `NetDegree : 2 NAME`, and a line for each pin
abbrev pub net_lines : ℕ → Net → List ℕ
net_lines number net = line_of (codes "NetDegree" ∷ codes ":" ∷ codes "2" ∷ net_name number ∷ []) ++ pin_line net.first ++ pin_line net.second

-- the lines of the nets, which are numbered from n on
abbrev pub net_lines_from : ℕ → List Net → List ℕ
net_lines_from n [] = []
net_lines_from n (net ∷ nets) = net_lines n net ++ net_lines_from (n + 1) nets

abbrev pub nets_text : Grid → List ℕ
nets_text grid = header (codes "nets") ++ stated (codes "NumNets") (length (nets_of grid)) ++ stated (codes "NumPins") (2 * length (nets_of grid))
    ++ net_lines_from 0 (nets_of grid)

-- `NAME WEIGHT`
abbrev pub weight_line : ℕ → ℕ → List ℕ
weight_line number net = line_of (net_name net ∷ decimal (weight_of number net) ∷ [])

abbrev pub wts_text : Grid → List ℕ
wts_text grid = header (codes "wts") ++ flat_map (weight_line grid.number) (range_with_len 0 (length (nets_of grid)))

-- where the terminal of this number stands: beside the middle of its row, or at the middle of its column
abbrev pub x_of : Grid → Side → ℕ → ℕ
x_of grid Left row = 0
x_of grid Right row = COLUMN_SITES * grid.columns
x_of grid Bottom column = COLUMN_SITES * column + COLUMN_SITES / 2
x_of grid Top column = COLUMN_SITES * column + COLUMN_SITES / 2

abbrev pub y_of : Grid → Side → ℕ → ℕ
y_of grid Left row = ROW_HEIGHT * row + ROW_HEIGHT / 2
y_of grid Right row = ROW_HEIGHT * row + ROW_HEIGHT / 2
y_of grid Bottom column = 0
y_of grid Top column = ROW_HEIGHT * grid.rows

-- `NAME X Y : N`, and `/FIXED` behind it for a terminal; cells begin at the origin
abbrev pub place_line : Grid → Node → List ℕ
place_line grid (Cell number) = line_of (name_of (Cell number) ∷ codes "0" ∷ codes "0" ∷ codes ":" ∷ codes "N" ∷ [])
place_line grid (Terminal side number) = line_of (name_of (Terminal side number) ∷ decimal (x_of grid side number) ∷ decimal (y_of grid side number) ∷ codes ":" ∷ codes "N" ∷ codes "/FIXED" ∷ [])

abbrev pub pl_text : Grid → List ℕ
pl_text grid = header (codes "pl") ++ flat_map (place_line grid) (nodes_of grid)

-- so many sites from x 0 on
abbrev pub subrow_line : ℕ → List ℕ
subrow_line sites = line_of (codes "SubrowOrigin" ∷ codes ":" ∷ codes "0" ∷ codes "NumSites" ∷ codes ":" ∷ decimal sites ∷ [])

-- the block of a row, all of whose sites are one run
abbrev pub row_lines : Grid → ℕ → List ℕ
row_lines grid row = line_of (codes "CoreRow" ∷ codes "Horizontal" ∷ []) ++ stated (codes "Coordinate") (ROW_HEIGHT * row) ++ stated (codes "Height") ROW_HEIGHT
    ++ stated (codes "Sitewidth") 1 ++ stated (codes "Sitespacing") 1
    ++ subrow_line (COLUMN_SITES * grid.columns) ++ line_of (codes "End" ∷ [])

abbrev pub scl_text : Grid → List ℕ
scl_text grid = header (codes "scl") ++ stated (codes "NumRows") grid.rows ++ flat_map (row_lines grid) (range_with_len 0 grid.rows)

-- the texts are those of the grid's design
pub record AreTextsOf (grid : Grid) (texts : Texts) : Type 0 where
  pub nodes : texts.nodes.items ≡ nodes_text grid
  pub nets : texts.nets.items ≡ nets_text grid
  pub wts : texts.wts.items ≡ wts_text grid
  pub pl : texts.pl.items ≡ pl_text grid
  pub scl : texts.scl.items ≡ scl_text grid

-- Legality: where cells may stand, told of subrows, sites and rectangles alone.
use Rattle.std.specs.Prelude.{◌≡◌, ◌≢◌, ℕ, ◌<◌, false, List, length, slice_index_or, ℤ, pos, ◌+ℤ◌, ◌*ℤ◌, ◌≤ℤ◌}
use Rattle.std.specs.List.{count_by}
use Rattle.book_design.specs.declared.parts.Subrow.{Subrow}
use Rattle.book_design.specs.Values.{NodeValue, DesignValue}
use Rattle.book_design.specs.Points.{is_movable, node_value_at, IsNodeOf, site_count}
use Rattle.book_design.specs.WellFormed.{subrow_at}
use Rattle.row_space.specs.Rectangles.{Rectangle, share_area, blocks}

-- a lower left corner
pub record Spot : Type 0 where
  pub x : ℤ
  pub y : ℤ

abbrev pub spot_at : List Spot → ℕ → Spot
spot_at spots p = slice_index_or spots p (record { x = pos 0; y = pos 0 })

-- the inner rectangle is a part of the outer one
pub record LiesIn (inner outer : Rectangle) : Type 0 where
  pub left : outer.left ≤ℤ inner.left
  pub right : inner.right ≤ℤ outer.right
  pub lower : outer.lower ≤ℤ inner.lower
  pub upper : inner.upper ≤ℤ outer.upper

-- a subrow: its sites times the pitch, and the row height
abbrev pub subrow_rectangle : DesignValue → Subrow → Rectangle
subrow_rectangle design subrow = record {
  left = subrow.x;
  right = subrow.x +ℤ pos subrow.sites *ℤ design.pitch;
  lower = subrow.y;
  upper = subrow.y +ℤ design.row_height;
}

-- what a cell takes at a spot: its sites times the pitch, and the row height
abbrev pub cell_rectangle : DesignValue → NodeValue → Spot → Rectangle
cell_rectangle design node spot = record {
  left = spot.x;
  right = spot.x +ℤ pos (site_count node.width design.pitch) *ℤ design.pitch;
  lower = spot.y;
  upper = spot.y +ℤ design.row_height;
}

-- the cell itself
abbrev pub outline : NodeValue → Spot → Rectangle
outline node spot = record { left = spot.x; right = spot.x +ℤ node.width; lower = spot.y; upper = spot.y +ℤ node.height }

-- The cell's left edge lies a whole number of pitches right of a subrow's origin, and its lower edge is the subrow's. Its rectangle
-- lies in that subrow, contains the cell, and shares no area with a fixed node that forbids overlap.
pub record IsLegalCell (design : DesignValue) (node : NodeValue) (spot : Spot) : Type 0 where
  pub subrow : ℕ
  pub there : subrow < length design.subrows
  pub pitches : ℕ
  pub left : spot.x ≡ (subrow_at design.subrows subrow).x +ℤ pos pitches *ℤ design.pitch
  pub lower : spot.y ≡ (subrow_at design.subrows subrow).y
  pub within : LiesIn (cell_rectangle design node spot) (subrow_rectangle design (subrow_at design.subrows subrow))
  pub contains : LiesIn (outline node spot) (cell_rectangle design node spot)
  pub free : (i : ℕ) → i < length design.nodes → blocks (node_value_at design.nodes i) (cell_rectangle design node spot) ≡ false

-- The movable nodes stand legally at these spots, one for each: each does, and the rectangles of no two share area.
pub record IsLegal (design : DesignValue) (spots : List Spot) : Type 0 where
  pub all : length spots ≡ count_by is_movable design.nodes
  pub each : (p i : ℕ) → IsNodeOf design.nodes p i → IsLegalCell design (node_value_at design.nodes i) (spot_at spots p)
  pub apart : (p q i j : ℕ) → p ≢ q → IsNodeOf design.nodes p i → IsNodeOf design.nodes q j
      → share_area (cell_rectangle design (node_value_at design.nodes i) (spot_at spots p)) (cell_rectangle design (node_value_at design.nodes j) (spot_at spots q)) ≡ false

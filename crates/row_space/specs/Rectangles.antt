-- Rectangles, and whether two share area.
use Rattle.std.specs.Prelude.{ℕ, ◌+◌, Bool, not, ◌&&◌, int_lt, ℤ, pos, ◌+ℤ◌, ◌*ℤ◌}
use Rattle.std.specs.Int.{int_min, int_max}
use Rattle.book_design.specs.declared.parts.Subrow.{Subrow}
use Rattle.book_design.specs.Values.{NodeValue, DesignValue}
use Rattle.row_space.specs.declared.parts.Segment.{Segment}

pub record Rectangle : Type 0 where
  pub left : ℤ
  pub right : ℤ
  pub lower : ℤ
  pub upper : ℤ

-- Two rectangles share area where they have a rectangle of positive width and height in common.
abbrev pub share_area : Rectangle → Rectangle → Bool
share_area a b = int_lt (int_max a.left b.left) (int_min a.right b.right) && int_lt (int_max a.lower b.lower) (int_min a.upper b.upper)

abbrev pub node_rectangle : NodeValue → Rectangle
node_rectangle node = record { left = node.x; right = node.x +ℤ node.width; lower = node.y; upper = node.y +ℤ node.height }

-- the sites of a subrow from one on, so many of them
abbrev pub sites_rectangle : DesignValue → Subrow → ℕ → ℕ → Rectangle
sites_rectangle design subrow k n = record {
  left = subrow.x +ℤ pos k *ℤ design.pitch;
  right = subrow.x +ℤ pos (k + n) *ℤ design.pitch;
  lower = subrow.y;
  upper = subrow.y +ℤ design.row_height;
}

abbrev pub segment_rectangle : DesignValue → Segment → Rectangle
segment_rectangle design segment = record {
  left = segment.x;
  right = segment.x +ℤ pos segment.sites *ℤ design.pitch;
  lower = segment.y;
  upper = segment.y +ℤ design.row_height;
}

-- A fixed node that doesn't allow overlap forbids it.
abbrev pub forbids_overlap : NodeValue → Bool
forbids_overlap node = node.fixed && not node.overlap

-- such a node stands in the way of a rectangle with which it shares area
abbrev pub blocks : NodeValue → Rectangle → Bool
blocks node rectangle = forbids_overlap node && share_area (node_rectangle node) rectangle

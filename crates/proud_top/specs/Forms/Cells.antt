-- The sizes of cells, and their places in segments.
use Rattle.std.specs.Prelude.{◌≡◌, ℕ, ◌<◌, ◌≤◌, List, length, slice_index, ℤ, pos, ◌≤ℤ◌}
use Rattle.book_text.specs.declared.decimal.TheConstants.{MOST_MICRO}
use Rattle.book_design.specs.declared.parts.Node.{Node}
use Rattle.book_design.specs.Values.{DesignValue}
use Rattle.book_design.specs.Points.{node_value_at, IsNodeOf}
use Rattle.level_run.specs.declared.level.Level.{Level}
use Rattle.row_legal.specs.declared.parts.Wish.{Wish}
use Rattle.proud_top.specs.Wishes.{wished_corner}
use Rattle.row_space.specs.Values.{SegmentsValue, segment_at}
use Rattle.row_space.specs.Runs.{segments_of}
use Rattle.row_legal.specs.Cells.{CellsValue}
use Rattle.row_legal.specs.declared.parts.Place.{Place}
use Rattle.row_legal.specs.Places.{IsLegalised, place_at}
use Rattle.row_legal.specs.Spots.{AreSitesOf}

-- from 0 to 1,000,000 units, in millionths
pub record IsSize (size : ℤ) : Type 0 where
  pub sign : pos 0 ≤ℤ size
  pub most : size ≤ℤ pos MOST_MICRO

pub record IsSized (node : Node) : Type 0 where
  pub width : IsSize node.width
  pub height : IsSize node.height

-- the point's node wishes this corner
abbrev pub IsWish : DesignValue → Level → ℕ → Wish → Type 0
IsWish design level p wish = (i : ℕ) → IsNodeOf design.nodes p i → wish ≡ wished_corner (node_value_at design.nodes i) (slice_index level.x.mid p) (slice_index level.y.mid p)

-- the place is one of a site of its segment, or at the segment's end
pub record IsWithin (rows : SegmentsValue) (place : Place) : Type 0 where
  pub there : place.segment < length rows.segments
  pub within : place.site ≤ (segment_at rows.segments place.segment).sites

-- there are so many places, each within its segment
pub record AreWithin (points : ℕ) (rows : SegmentsValue) (places : List Place) : Type 0 where
  pub all : length places ≡ points
  pub each : (p : ℕ) → p < points → IsWithin rows (place_at places p)

-- these are the places that the greedy rule gives the cells in the segments of the design, whatever they wish
pub record ArePlacedIn (design : DesignValue) (rows : SegmentsValue) (places : List Place) : Type 0 where
  pub cells : CellsValue
  pub spaced : rows ≡ segments_of design
  pub sites : AreSitesOf design cells.sites
  pub legalised : IsLegalised rows cells places

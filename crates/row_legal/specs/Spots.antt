-- Places as corners, and the sites of a design's cells.
use Rattle.std.specs.Prelude.{◌≡◌, ℕ, List, length, map, slice_index, pos, ◌+ℤ◌, ◌*ℤ◌}
use Rattle.std.specs.List.{count_by}
use Rattle.book_design.specs.Values.{DesignValue}
use Rattle.book_design.specs.Points.{is_movable, node_value_at, IsNodeOf, site_count}
use Rattle.row_space.specs.Values.{SegmentsValue, segment_at}
use Rattle.row_legal.specs.declared.parts.Place.{Place}
use Rattle.row_legal.specs.Legal.{Spot}

-- where a place is
abbrev pub spot_of : SegmentsValue → Place → Spot
spot_of rows place = record { x = (segment_at rows.segments place.segment).x +ℤ pos place.site *ℤ rows.pitch; y = (segment_at rows.segments place.segment).y }

abbrev pub spots_of : SegmentsValue → List Place → List Spot
spots_of rows places = map (spot_of rows) places

-- how many sites each point takes
pub record AreSitesOf (design : DesignValue) (sites : List ℕ) : Type 0 where
  pub all : length sites ≡ count_by is_movable design.nodes
  pub each : (p i : ℕ) → IsNodeOf design.nodes p i → slice_index sites p ≡ site_count (node_value_at design.nodes i).width design.pitch

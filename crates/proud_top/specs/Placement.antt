-- The placement: where each node stands, and a line for each in order.
use Rattle.std.specs.Prelude.{◌≡◌, ℕ, ◌+◌, List, length, map, if◌then◌else◌}
use Rattle.std.specs.List.{range_with_len}
use Rattle.book_files.specs.Entries.{PlaceEntry}
use Rattle.book_files.specs.PlaceText.{placement_text}
use Rattle.book_design.specs.Records.{Records}
use Rattle.book_design.specs.Values.{NodeValue, DesignValue}
use Rattle.book_design.specs.Points.{node_value_at, movable_before}
use Rattle.book_design.specs.Answers.{IsJoined}
use Rattle.row_legal.specs.Legal.{Spot, spot_at, IsLegal}
use Rattle.wire_report.specs.declared.corner.Corner.{Corner}
use Rattle.wire_report.specs.Wire.{corner_at}

-- a cell's spot, as the corner of its node
abbrev pub corner_from : Spot → Corner
corner_from spot = record { x = spot.x; y = spot.y }

-- the corner of a fixed node, and of a movable one the spot of its cell
abbrev pub corner_of : List NodeValue → List Spot → ℕ → Corner
corner_of nodes spots i = if (node_value_at nodes i).fixed then record { x = (node_value_at nodes i).x; y = (node_value_at nodes i).y } else corner_from (spot_at spots (movable_before nodes i))

-- the corner of each node, with the cells at these spots
abbrev pub corners_of : DesignValue → List Spot → List Corner
corners_of design spots = map (corner_of design.nodes spots) (range_with_len 0 (length design.nodes))

-- a node's line, behind the header: its name, its corner, its own orientation, and whether it is fixed
abbrev pub place_with : NodeValue → Corner → ℕ → PlaceEntry
place_with node corner i = record { line = i + 2; name = node.name; x = corner.x; y = corner.y; orient = node.orient; fixed = node.fixed; overlap = node.overlap }

abbrev pub place_of : List NodeValue → List Corner → ℕ → PlaceEntry
place_of nodes corners i = place_with (node_value_at nodes i) (corner_at corners i) i

abbrev pub places_of : List NodeValue → List Corner → List PlaceEntry
places_of nodes corners = map (place_of nodes corners) (range_with_len 0 (length nodes))

-- the text of the placement with the nodes' corners here
abbrev pub placement_of : DesignValue → List Corner → List ℕ
placement_of design corners = placement_text (places_of design.nodes corners)

-- The text is a placement of the design that the records make, in which the cells stand legally.
pub record IsLegalText (IsRead : Records → Type 0) (text : List ℕ) : Type 0 where
  pub records : Records
  pub design : DesignValue
  pub spots : List Spot
  pub read : IsRead records
  pub joined : IsJoined records design
  pub legal : IsLegal design spots
  pub is_text : text ≡ placement_of design (corners_of design spots)

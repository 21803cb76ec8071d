-- The wire length of a design whose nodes stand at corners.
use Rattle.std.specs.Prelude.{ℕ, ◌+◌, ◌/◌, List, [], ◌∷◌, map, fold, slice_index_or, ℤ, pos, nat_abs, ◌+ℤ◌, ◌-ℤ◌}
use Rattle.std.specs.Int.{int_max, int_min}
use Rattle.std.specs.List.{sum_by}
use Rattle.book_text.specs.Coordinates.{IsMicro}
use Rattle.book_design.specs.declared.parts.Pin.{Pin}
use Rattle.book_design.specs.Values.{NetValue, DesignValue}
use Rattle.book_design.specs.Points.{node_value_at}
use Rattle.wire_report.specs.declared.corner.Corner.{Corner}

-- a corner within 1,000,000 units of the origin, on both axes
pub record IsNearCorner (corner : Corner) : Type 0 where
  pub x : IsMicro corner.x
  pub y : IsMicro corner.y

-- past the end there is a corner at the origin
abbrev pub corner_at : List Corner → ℕ → Corner
corner_at corners i = slice_index_or corners i (record { x = pos 0; y = pos 0 })

-- half of a size, rounded down
abbrev pub half : ℤ → ℤ
half size = pos (nat_abs size / 2)

-- a pin stands at its node's centre, which is the node's corner plus half of its size, plus the pin's offset
abbrev pub pin_x : DesignValue → List Corner → Pin → ℤ
pin_x design corners pin = (corner_at corners pin.node).x +ℤ half (node_value_at design.nodes pin.node).width +ℤ pin.dx

abbrev pub pin_y : DesignValue → List Corner → Pin → ℤ
pin_y design corners pin = (corner_at corners pin.node).y +ℤ half (node_value_at design.nodes pin.node).height +ℤ pin.dy

-- the greatest of whole numbers, and the least; 0 of none
abbrev pub greatest : List ℤ → ℤ
greatest [] = pos 0
greatest (z ∷ zs) = fold int_max z zs

abbrev pub least : List ℤ → ℤ
least [] = pos 0
least (z ∷ zs) = fold int_min z zs

-- how far the greatest lies above the least
abbrev pub spread : List ℤ → ℕ
spread zs = nat_abs (greatest zs -ℤ least zs)

-- the width plus the height of the smallest rectangle around a net's pins
abbrev pub net_length : DesignValue → List Corner → NetValue → ℕ
net_length design corners net = spread (map (pin_x design corners) net.pins) + spread (map (pin_y design corners) net.pins)

-- the sum over the nets, whatever their weights are
abbrev pub wire_length : DesignValue → List Corner → ℕ
wire_length design corners = sum_by (net_length design corners) design.nets

-- What one net gives the points: pairs of one weight, from its distinct nodes.
use Rattle.std.specs.Prelude.{◌≡◌, ℕ, ◌<◌, Bool, false, not, ◌||◌, ◌==◌, List, [], ◌∷◌, ◌++◌, length, Option, Some, None, if◌then◌else◌, ◌+ℤ◌}
use Rattle.std.specs.List.{filter_map, list_any}
use Rattle.book_design.specs.declared.parts.Pin.{Pin}
use Rattle.book_design.specs.Values.{NodeValue, DesignValue}
use Rattle.book_design.specs.Points.{is_movable, movable_before}
use Rattle.net_model.specs.declared.parts.Near.{Near}
use Rattle.net_model.specs.declared.parts.FixedPin.{FixedPin}
use Rattle.net_model.specs.Values.{PointValue, point_at}
use Rattle.net_model.specs.Clique.{centre_x, centre_y}
use Rattle.net_model.specs.Numbered.{node_at, node_of, point_nodes}

-- one of the pins is at the node
abbrev pub is_at : List Pin → ℕ → Bool
is_at pins i = list_any (λ pin. pin.node == i) pins

-- no two pins are at one node
abbrev pub AreDistinct : List Pin → Type 0
AreDistinct [] = Unit {0}
AreDistinct (pin ∷ pins) = (is_at pins pin.node ≡ false) × AreDistinct pins

-- a pin as a fixed pin of this weight: it stands at the node's centre plus the pin's offset
abbrev pub fixed_pin : ℕ → NodeValue → Pin → FixedPin
fixed_pin weight node pin = record { weight = weight; x = centre_x node +ℤ pin.dx; y = centre_y node +ℤ pin.dy }

-- the node of a pin as a neighbour of another node by a pair of this weight, where it is movable
abbrev pub paired_near : DesignValue → ℕ → ℕ → Pin → Option Near
paired_near design weight i pin = if (pin.node == i) || not (is_movable (node_at design pin.node)) then None
    else Some (record { point = movable_before design.nodes pin.node; weight = weight })

-- a pin as a fixed pin of this weight, where its node is fixed
abbrev pub paired_pin : DesignValue → ℕ → Pin → Option FixedPin
paired_pin design weight pin = if is_movable (node_at design pin.node) then None
    else Some (fixed_pin weight (node_at design pin.node) pin)

-- the point of a node, in pairs of this weight with the nodes of some pins
abbrev pub paired_point : DesignValue → ℕ → List Pin → ℕ → PointValue → PointValue
paired_point design weight pins i point = record {
  near = point.near ++ filter_map (paired_near design weight i) pins;
  pins = point.pins ++ filter_map (paired_pin design weight) pins;
  area = point.area;
}

-- Each point whose node has one of the pins is in pairs with the nodes of all of them. The others stay as they were.
pub record ArePaired (design : DesignValue) (weight : ℕ) (pins : List Pin) (old new : List PointValue) : Type 0 where
  pub all : length new ≡ length old
  pub each : (p : ℕ) → p < length (point_nodes design) → point_at new p
      ≡ (if is_at pins (node_of design p) then paired_point design weight pins (node_of design p) (point_at old p) else point_at old p)

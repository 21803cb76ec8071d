-- What the star points of wide nets give the points: spokes of one weight for each net.
use Rattle.std.specs.Prelude.{◌≡◌, ℕ, ◌+◌, ◌<◌, ◌≤◌, List, [], ◌∷◌, ◌++◌, length, Option, Some, None, if◌then◌else◌}
use Rattle.std.specs.List.{filter_map, range_with_len}
use Rattle.book_design.specs.declared.parts.Pin.{Pin}
use Rattle.book_design.specs.Values.{DesignValue}
use Rattle.book_design.specs.Points.{is_movable, movable_before}
use Rattle.net_model.specs.declared.parts.Near.{Near}
use Rattle.net_model.specs.Values.{PointValue, point_at}
use Rattle.net_model.specs.Clique.{first_pins, has_node}
use Rattle.net_model.specs.Numbered.{node_at, node_of, point_nodes}
use Rattle.net_model.specs.Star.{spoke, star_net, star_nets}
use Rattle.net_model.specs.Forms.Joining.{is_at, paired_pin}

-- the node of a pin as a neighbour of a star point, by a spoke of this weight, where it is movable
abbrev pub spoked_near : DesignValue → ℕ → Pin → Option Near
spoked_near design weight pin = if is_movable (node_at design pin.node)
    then Some (record { point = movable_before design.nodes pin.node; weight = weight }) else None

-- the star point of a net with these first pins, by spokes of this weight
abbrev pub star_point : DesignValue → ℕ → List Pin → PointValue
star_point design weight pins = record {
  near = filter_map (spoked_near design weight) pins;
  pins = filter_map (paired_pin design weight) pins;
  area = 0;
}

-- a point with one more neighbour: a star point of this number, by a spoke of this weight
abbrev pub spoked_point : ℕ → ℕ → PointValue → PointValue
spoked_point weight number point = record {
  near = point.near ++ (record { point = number; weight = weight } ∷ []);
  pins = point.pins;
  area = point.area;
}

-- Each point whose node has one of the pins has a spoke to the star point of this number. The others stay as they were.
pub record AreSpoked (design : DesignValue) (weight number : ℕ) (pins : List Pin) (old new : List PointValue) : Type 0 where
  pub all : length new ≡ length old
  pub nodes : (p : ℕ) → p < length (point_nodes design) → point_at new p
      ≡ (if is_at pins (node_of design p) then spoked_point weight number (point_at old p) else point_at old p)
  pub others : (p : ℕ) → length (point_nodes design) ≤ p → p < length old → point_at new p ≡ point_at old p

-- the spoke of a node to a star point, where it has one, by the number of star points before it
abbrev pub as_spoke : DesignValue → ℕ → ℕ → Option Near
as_spoke design i s = if has_node (star_net design s) i
    then Some (record { point = length (point_nodes design) + s; weight = spoke (star_net design s) }) else None

-- a point with the spokes of its node to the first so many star points
abbrev pub with_spokes : DesignValue → ℕ → ℕ → PointValue → PointValue
with_spokes design stars i point = record {
  near = point.near ++ filter_map (as_spoke design i) (range_with_len 0 stars);
  pins = point.pins;
  area = point.area;
}

-- the points of nodes with their spokes to the first so many star points, and those star points
pub record AreStarredTo (design : DesignValue) (count : ℕ) (old new : List PointValue) : Type 0 where
  pub all : length new ≡ length old + count
  pub nodes : (p : ℕ) → p < length (point_nodes design) → point_at new p ≡ with_spokes design count (node_of design p) (point_at old p)
  pub stars : (s : ℕ) → s < count → point_at new (length (point_nodes design) + s)
      ≡ star_point design (spoke (star_net design s)) (first_pins (star_net design s).pins)

-- all star points
abbrev pub AreStarred : DesignValue → List PointValue → List PointValue → Type 0
AreStarred design old new = AreStarredTo design (length (star_nets design)) old new

-- A network as contracts see it.
use Rattle.std.specs.Prelude.{ℕ, ◌-◌, List, [], length, map, slice_index_or}
use Rattle.book_design.specs.declared.parts.Core.{Core}
use Rattle.net_model.specs.declared.parts.Near.{Near}
use Rattle.net_model.specs.declared.parts.FixedPin.{FixedPin}
use Rattle.net_model.specs.declared.point.NetPoint.{NetPoint}

-- a point: its neighbours in ascending order, its fixed pins in the order of nets and of first pins, and its sites
pub record PointValue : Type 0 where
  pub near : List Near
  pub pins : List FixedPin
  pub area : ℕ

-- the points, with the star points behind the movable nodes, and the net of each star point
pub record NetworkValue : Type 0 where
  pub points : List PointValue
  pub stars : List ℕ
  pub core : Core

-- how many of the points are movable nodes
abbrev pub node_count : NetworkValue → ℕ
node_count network = length network.points - length network.stars

abbrev pub point_entry : NetPoint → PointValue
point_entry p = record { near = p.near.items; pins = p.pins.items; area = p.area }

abbrev pub point_values : List NetPoint → List PointValue
point_values points = map point_entry points

abbrev pub point_at : List PointValue → ℕ → PointValue
point_at points p = slice_index_or points p (record { near = []; pins = []; area = 0 })

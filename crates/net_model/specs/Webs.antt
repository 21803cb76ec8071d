-- A network as a web: a point is anchored where it has a fixed pin.
use Rattle.std.specs.Prelude.{Bool, false, true, List, [], ◌∷◌, map}
use Rattle.pad_reach.specs.Chain.{Joint}
use Rattle.net_model.specs.declared.parts.FixedPin.{FixedPin}
use Rattle.net_model.specs.Values.{PointValue, NetworkValue}

abbrev pub has_pins : List FixedPin → Bool
has_pins [] = false
has_pins (pin ∷ pins) = true

abbrev pub joint_of : PointValue → Joint
joint_of point = record { near = map (λ near. near.point) point.near; anchored = has_pins point.pins }

abbrev pub joints_of : NetworkValue → List Joint
joints_of network = map joint_of network.points

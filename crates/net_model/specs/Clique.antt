-- The clique of a net: which nodes it joins, and with what weight.
use Rattle.std.specs.Prelude.{ℕ, ◌-◌, ◌*◌, ◌/◌, Bool, not, ◌&&◌, ◌==◌, nat_lt, List, [], ◌∷◌, length, filter, if◌then◌else◌, ℤ, pos, nat_abs, ◌+ℤ◌}
use Rattle.std.specs.List.{list_any}
use Rattle.book_design.specs.declared.parts.Pin.{Pin}
use Rattle.net_model.specs.declared.limits.TheConstants.{NET_WEIGHT, MOST_CLIQUE}
use Rattle.book_design.specs.Values.{NodeValue, NetValue}

-- the first pin of each distinct node, in order
abbrev pub first_pins : List Pin → List Pin
first_pins [] = []
first_pins (pin ∷ pins) = pin ∷ filter (λ other. not (other.node == pin.node)) (first_pins pins)

-- how many distinct nodes a net has
abbrev pub degree : NetValue → ℕ
degree net = length (first_pins net.pins)

-- a net that joins its nodes in pairs: it has two of them at least, and no more than a clique may have
abbrev pub is_clique : NetValue → Bool
is_clique net = nat_lt 1 (degree net) && not (nat_lt MOST_CLIQUE (degree net))

-- The weight of each pair of the nodes of a clique: `NET_WEIGHT` times the net's, shared by one less than its nodes, rounded down.
abbrev pub share : NetValue → ℕ
share net = if is_clique net then NET_WEIGHT * net.weight / (degree net - 1) else 0

-- the net has a pin at the node
abbrev pub has_node : NetValue → ℕ → Bool
has_node net i = list_any (λ pin. pin.node == i) net.pins

-- a node's centre: its corner plus half of its size, rounded down
abbrev pub centre_x : NodeValue → ℤ
centre_x node = node.x +ℤ pos (nat_abs node.width / 2)

abbrev pub centre_y : NodeValue → ℤ
centre_y node = node.y +ℤ pos (nat_abs node.height / 2)

-- The star of a wide net: a point of its own, joined to each of the net's nodes by a spoke.
use Rattle.std.specs.Prelude.{ℕ, ◌-◌, ◌*◌, ◌/◌, Bool, ◌&&◌, nat_lt, List, length, filter, slice_index, if◌then◌else◌}
use Rattle.std.specs.List.{list_any, range_with_len}
use Rattle.book_design.specs.Values.{NetValue, DesignValue}
use Rattle.book_design.specs.Points.{is_movable}
use Rattle.net_model.specs.declared.limits.TheConstants.{NET_WEIGHT, MOST_CLIQUE}
use Rattle.net_model.specs.Clique.{degree, has_node}
use Rattle.net_model.specs.Numbered.{node_at, net_at}

-- some node of the net is movable
abbrev pub has_movable : DesignValue → NetValue → Bool
has_movable design net = list_any (λ pin. is_movable (node_at design pin.node)) net.pins

-- a net with more nodes than a clique may have, a weight, and a movable node
abbrev pub is_wide : DesignValue → NetValue → Bool
is_wide design net = nat_lt MOST_CLIQUE (degree net) && (nat_lt 0 net.weight && has_movable design net)

-- The weight of a spoke of a wide net: `NET_WEIGHT` times the net's and times its nodes, shared by one less than its nodes, rounded
-- down. A star of k spokes of conductance g is to its nodes what a clique of g / k per pair is.
abbrev pub spoke : NetValue → ℕ
spoke net = NET_WEIGHT * net.weight * degree net / (degree net - 1)

-- the weight of a star point and a node: that of a spoke, where the node is one of its net's
abbrev pub spoke_weight : NetValue → ℕ → ℕ
spoke_weight net i = if has_node net i then spoke net else 0

-- the numbers of the wide nets in order; each has a star point
abbrev pub star_nets : DesignValue → List ℕ
star_nets design = filter (λ n. is_wide design (net_at design n)) (range_with_len 0 (length design.nets))

-- the net of the star point that comes so many star points after the first
abbrev pub star_net : DesignValue → ℕ → NetValue
star_net design s = net_at design (slice_index (star_nets design) s)

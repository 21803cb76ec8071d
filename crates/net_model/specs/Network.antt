-- The network of a design: its movable nodes and its star points, for two of them the sum of what the nets with both of them give,
-- and for each the fixed pins of its nets.
use Rattle.std.specs.Prelude.{◌≡◌, ℕ, ◌+◌, ◌-◌, ◌*◌, ◌/◌, ◌<◌, ◌≤◌, Bool, not, ◌&&◌, ◌||◌, ◌==◌, nat_lt, List, [], length, map, filter, sum_by, count_by, Option, Some, None, if◌then◌else◌, ◌+ℤ◌}
use Rattle.std.specs.List.{filter_map, flat_map, range_with_len}
use Rattle.book_design.specs.declared.parts.Pin.{Pin}
use Rattle.book_design.specs.Values.{NetValue, DesignValue}
use Rattle.book_design.specs.Points.{is_movable, site_count}
use Rattle.book_design.specs.Faults.{IsFirst}
use Rattle.net_model.specs.declared.limits.TheConstants.{MOST_TERMS, MOST_WEIGHT}
use Rattle.net_model.specs.declared.parts.Near.{Near}
use Rattle.net_model.specs.declared.parts.FixedPin.{FixedPin}
use Rattle.net_model.specs.Values.{PointValue, NetworkValue}
use Rattle.net_model.specs.declared.fault.NetFault.{NetFault}
use Rattle.net_model.specs.declared.fault.NetFault.TheVariants.{TooManyEdges, Heavy}
use Rattle.net_model.specs.Clique.{first_pins, degree, share, has_node, centre_x, centre_y}
use Rattle.net_model.specs.Numbered.{node_at, point_nodes, node_of}
use Rattle.net_model.specs.Star.{is_wide, spoke, spoke_weight, star_nets, star_net}

-- The points are the movable nodes in the order of nodes, and then one star point for each wide net in the order of nets.
abbrev pub point_count : DesignValue → ℕ
point_count design = length (point_nodes design) + length (star_nets design)

abbrev pub is_star : DesignValue → ℕ → Bool
is_star design p = not (nat_lt p (length (point_nodes design)))

-- the net of a star point
abbrev pub net_of_star : DesignValue → ℕ → NetValue
net_of_star design p = star_net design (p - length (point_nodes design))

-- the weight of two nodes: the sum of the shares of the nets that have both
abbrev pub pair_weight : DesignValue → ℕ → ℕ → ℕ
pair_weight design i j = sum_by (λ net. if has_node net i && has_node net j then share net else 0) design.nets

-- The weight of two points: of two nodes by their cliques, of a star point and a node by their spoke. Two star points have none.
abbrev pub weight_of : DesignValue → ℕ → ℕ → ℕ
weight_of design p q = if is_star design p then (if is_star design q then 0 else spoke_weight (net_of_star design p) (node_of design q))
    else if is_star design q then spoke_weight (net_of_star design q) (node_of design p)
    else pair_weight design (node_of design p) (node_of design q)

-- another point as a neighbour, where its weight isn't 0
abbrev pub as_near : DesignValue → ℕ → ℕ → Option Near
as_near design p q = if (q == p) || (weight_of design p q == 0) then None
    else Some (record { point = q; weight = weight_of design p q })

abbrev pub near_of : DesignValue → ℕ → List Near
near_of design p = filter_map (as_near design p) (range_with_len 0 (point_count design))

-- the first pin of a node in a net as a fixed pin of this weight, where the node is fixed: it stands at the node's centre plus the
-- pin's offset
abbrev pub as_pin : DesignValue → ℕ → Pin → Option FixedPin
as_pin design weight pin = if is_movable (node_at design pin.node) then None
    else Some (record { weight = weight; x = centre_x (node_at design pin.node) +ℤ pin.dx; y = centre_y (node_at design pin.node) +ℤ pin.dy })

-- the fixed pins of a net, each of this weight, in the order of first pins
abbrev pub fixed_in : DesignValue → ℕ → NetValue → List FixedPin
fixed_in design weight net = filter_map (as_pin design weight) (first_pins net.pins)

-- the fixed pins that a clique joins a node to; none of weight 0
abbrev pub pins_in : DesignValue → ℕ → NetValue → List FixedPin
pins_in design i net = if share net == 0 then [] else if has_node net i then fixed_in design (share net) net else []

-- the fixed pins of a star point are those of its net, and those of a node are those of its cliques
abbrev pub pins_of : DesignValue → ℕ → List FixedPin
pins_of design p = if is_star design p then fixed_in design (spoke (net_of_star design p)) (net_of_star design p)
    else flat_map (pins_in design (node_of design p)) design.nets

-- the sites that a point takes; a star point takes none
abbrev pub area_of : DesignValue → ℕ → ℕ
area_of design p = if is_star design p then 0 else site_count (node_at design (node_of design p)).width design.pitch

abbrev pub point_value : DesignValue → ℕ → PointValue
point_value design p = record { near = near_of design p; pins = pins_of design p; area = area_of design p }

abbrev pub network_of : DesignValue → NetworkValue
network_of design = record {
  points = map (point_value design) (range_with_len 0 (point_count design));
  stars = star_nets design;
  core = design.core;
}

-- the total weight of a point
abbrev pub total_weight : PointValue → ℕ
total_weight point = sum_by (λ near. near.weight) point.near + sum_by (λ pin. pin.weight) point.pins

-- Two nodes are a pair term of a net that has both, where one of them is movable and the net's share is at least 1.
abbrev pub is_term : DesignValue → NetValue → ℕ → ℕ → Bool
is_term design net i j = has_node net i && (has_node net j && ((is_movable (node_at design i) || is_movable (node_at design j)) && not (share net == 0)))

-- the spokes of a net, one for each of its nodes; none where it has no star point
abbrev pub spokes_of : DesignValue → NetValue → ℕ
spokes_of design net = if is_wide design net then degree net else 0

-- how many pairs of different nodes are a term of the net, each node with those before it, and how many spokes it has
unfoldable pub terms_of : DesignValue → NetValue → ℕ
terms_of design net = sum_by (λ i. count_by (is_term design net i) (range_with_len 0 i)) (range_with_len 0 (length design.nodes)) + spokes_of design net

-- how many pairs so many nodes have
abbrev pub pairs : ℕ → ℕ
pairs k = k * (k - 1) / 2

-- the first pins of a net's fixed nodes
abbrev pub fixed_pins : DesignValue → NetValue → List Pin
fixed_pins design net = filter (λ pin. not (is_movable (node_at design pin.node))) (first_pins net.pins)

-- the pairs of a clique, without those of two fixed nodes, or the spokes of a star
abbrev pub terms_in_pairs : DesignValue → NetValue → ℕ
terms_in_pairs design net = (if share net == 0 then 0 else pairs (degree net) - pairs (length (fixed_pins design net))) + spokes_of design net

abbrev pub terms : DesignValue → ℕ
terms design = sum_by (terms_of design) design.nets

-- a point whose total weight is too much
abbrev pub IsHeavy : DesignValue → ℕ → Type 0
IsHeavy design p = (p < point_count design) × (MOST_WEIGHT < total_weight (point_value design p))

-- The faults in their order: too many pair terms, a point that is too heavy.
abbrev pub IsFirstFault : DesignValue → NetFault → Type 0
IsFirstFault design (TooManyEdges number) = (number ≡ terms design) × (MOST_TERMS < number)
IsFirstFault design (Heavy p) = (terms design ≤ MOST_TERMS) × IsFirst (IsHeavy design) p

-- the network of a design without a fault
pub record IsNetwork (design : DesignValue) (network : NetworkValue) : Type 0 where
  pub few : terms design ≤ MOST_TERMS
  pub light : (p : ℕ) → IsHeavy design p → ⊥
  pub made : network ≡ network_of design

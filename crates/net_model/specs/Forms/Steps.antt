-- The steps that make a network: the cliques of the nets, what they give each point, and the sums of it.
use Rattle.std.specs.Prelude.{◌≡◌, ℕ, ◌^◌, ◌<◌, ◌≤◌, Bool, false, ◌==◌, List, [], length, sum_by, slice_index_or, Option, Some, None, if◌then◌else◌, All}
use Rattle.std.specs.List.{filter_map, flat_map, range_with_len}
use Rattle.book_design.specs.declared.parts.Pin.{Pin}
use Rattle.book_design.specs.Values.{NetValue, DesignValue}
use Rattle.book_design.specs.Points.{site_count}
use Rattle.net_model.specs.declared.limits.TheConstants.{MOST_WEIGHT}
use Rattle.net_model.specs.declared.parts.Near.{Near}
use Rattle.net_model.specs.declared.parts.FixedPin.{FixedPin}
use Rattle.net_model.specs.Values.{PointValue, point_at}
use Rattle.net_model.specs.declared.counting.NetCount.{NetCount}
use Rattle.net_model.specs.Clique.{first_pins, share, has_node}
use Rattle.net_model.specs.Forms.Joining.{is_at, paired_near}
use Rattle.net_model.specs.Network.{pins_in, total_weight, terms}
use Rattle.net_model.specs.Numbered.{node_at, node_of, point_nodes}
use Rattle.net_model.specs.Star.{star_nets}

-- no node is marked as seen, of so many
pub record IsUnmarked (nodes : ℕ) (seen : List Bool) : Type 0 where
  pub all : length seen ≡ nodes
  pub none : (i : ℕ) → i < nodes → slice_index_or seen i false ≡ false

-- exactly the nodes of the pins are marked
abbrev pub AreMarked : List Pin → List Bool → Type 0
AreMarked pins seen = (i : ℕ) → i < length seen → slice_index_or seen i false ≡ is_at pins i

-- each pin is at one of so many nodes
abbrev pub AreAtNodes : ℕ → List Pin → Type 0
AreAtNodes nodes pins = All (λ pin. pin.node < nodes) pins

-- the number of pair terms, the wide nets, and a room for each node
pub record Counts (design : DesignValue) (count : NetCount) : Type 0 where
  pub terms : count.terms ≡ terms design
  pub stars : count.stars.items ≡ star_nets design
  pub rooms : length count.rooms.items ≡ length design.nodes

-- the neighbours that a net gives a node; none of weight 0
abbrev pub nears_in : DesignValue → ℕ → NetValue → List Near
nears_in design i net = if share net == 0 then [] else if has_node net i then filter_map (paired_near design (share net) i) (first_pins net.pins) else []

-- what some of the nets give a node
abbrev pub nears_by : DesignValue → List NetValue → ℕ → List Near
nears_by design nets i = flat_map (nears_in design i) nets

abbrev pub pins_by : DesignValue → List NetValue → ℕ → List FixedPin
pins_by design nets i = flat_map (pins_in design i) nets

-- a point has what some of the nets give its node, and the node's sites
pub record IsJoined (design : DesignValue) (nets : List NetValue) (i : ℕ) (point : PointValue) : Type 0 where
  pub near : point.near ≡ nears_by design nets i
  pub pins : point.pins ≡ pins_by design nets i
  pub area : point.area ≡ site_count (node_at design i).width design.pitch

-- the points with what some of the nets give them
pub record AreJoined (design : DesignValue) (nets : List NetValue) (points : List PointValue) : Type 0 where
  pub all : length points ≡ length (point_nodes design)
  pub each : (p : ℕ) → p < length (point_nodes design) → IsJoined design nets (node_of design p) (point_at points p)

-- the sum of the weights of a point's entries
abbrev pub weight_at : List Near → ℕ → ℕ
weight_at near q = sum_by (λ entry. if entry.point == q then entry.weight else 0) near

-- a point with the sum of its entries, where that isn't 0
abbrev pub as_sum : List Near → ℕ → Option Near
as_sum near q = if weight_at near q == 0 then None else Some (record { point = q; weight = weight_at near q })

-- an entry of a point, before the sums: of one of so many points, with a weight of at least 1
pub record IsEntry (points : ℕ) (entry : Near) : Type 0 where
  pub there : entry.point < points
  pub positive : 1 ≤ entry.weight

-- a point before the sums of its entries, which fit
pub record IsUnsummed (points : ℕ) (point : PointValue) : Type 0 where
  pub near : All (IsEntry points) point.near
  pub light : total_weight point < 2 ^ 64

-- the point with the sums of its entries
abbrev pub summed : ℕ → PointValue → PointValue
summed points point = record { near = filter_map (as_sum point.near) (range_with_len 0 points); pins = point.pins; area = point.area }

-- one of these points is heavy
abbrev pub IsHeavyPoint : List PointValue → ℕ → Type 0
IsHeavyPoint points p = (p < length points) × (MOST_WEIGHT < total_weight (point_at points p))

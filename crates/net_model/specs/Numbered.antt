-- The nodes and the nets of a design by their numbers, and the points that are nodes.
use Rattle.std.specs.Prelude.{ℕ, List, [], length, filter, slice_index, slice_index_or}
use Rattle.std.specs.List.{range_with_len}
use Rattle.book_design.specs.Values.{NodeValue, NetValue, DesignValue}
use Rattle.book_design.specs.Points.{is_movable, node_value_at}

abbrev pub node_at : DesignValue → ℕ → NodeValue
node_at design i = node_value_at design.nodes i

-- past the end there is a net without pins
abbrev pub net_at : DesignValue → ℕ → NetValue
net_at design n = slice_index_or design.nets n (record { weight = 0; pins = [] })

-- the numbers of the movable nodes in order; they are the first points
abbrev pub point_nodes : DesignValue → List ℕ
point_nodes design = filter (λ i. is_movable (node_at design i)) (range_with_len 0 (length design.nodes))

-- the number of the node that is the point
abbrev pub node_of : DesignValue → ℕ → ℕ
node_of design p = slice_index (point_nodes design) p

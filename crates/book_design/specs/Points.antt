-- The points of a design: its movable nodes, numbered in the order of the nodes.
use Rattle.std.specs.Prelude.{◌≡◌, ℕ, ◌<◌, Bool, true, false, not, List, length, take, slice_index_or, max, ℤ, pos, nat_abs}
use Rattle.std.specs.Int.{div_ceil}
use Rattle.std.specs.List.{count_by}
use Rattle.book_files.specs.declared.orient.Orient.TheVariants.{N}
use Rattle.book_design.specs.Values.{NodeValue}

abbrev pub is_movable : NodeValue → Bool
is_movable node = not node.fixed

-- past the end there is a node without a name or a size, which is fixed
abbrev pub node_value_at : List NodeValue → ℕ → NodeValue
node_value_at nodes i = slice_index_or nodes i (record { name = List.[]; width = pos 0; height = pos 0; x = pos 0; y = pos 0; orient = N; fixed = true; overlap = false })

-- how many movable nodes stand before the node of that number
abbrev pub movable_before : List NodeValue → ℕ → ℕ
movable_before nodes i = count_by is_movable (take i nodes)

-- the movable node of that number is the point
pub record IsNodeOf (nodes : List NodeValue) (point i : ℕ) : Type 0 where
  pub there : i < length nodes
  pub movable : is_movable (node_value_at nodes i) ≡ true
  pub number : movable_before nodes i ≡ point

-- how many sites a node takes: its width by the pitch, rounded up, and at least one
abbrev pub site_count : ℤ → ℤ → ℕ
site_count width pitch = max 1 (div_ceil (nat_abs width) (nat_abs pitch))

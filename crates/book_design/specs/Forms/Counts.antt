-- Movable nodes that are too high, and how many pins there are.
use Rattle.std.specs.Prelude.{◌≡◌, ℕ, ◌<◌, false, List, [], length, slice_index_or, ℤ, pos, ◌<ℤ◌}
use Rattle.book_files.specs.declared.orient.Orient.TheVariants.{N}
use Rattle.book_design.specs.Values.{NodeValue}

-- past the end stands a node without a name or a size
abbrev pub value_at : List NodeValue → ℕ → NodeValue
value_at nodes i = slice_index_or nodes i (record { name = []; width = pos 0; height = pos 0; x = pos 0; y = pos 0; orient = N; fixed = false; overlap = false })

-- a movable node that is higher
pub record IsHigher (nodes : List NodeValue) (height : ℤ) (i : ℕ) : Type 0 where
  pub there : i < length nodes
  pub movable : (value_at nodes i).fixed ≡ false
  pub higher : height <ℤ (value_at nodes i).height

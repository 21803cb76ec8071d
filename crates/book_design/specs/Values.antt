-- A joined design as contracts see it.
use Rattle.std.specs.Prelude.{ℕ, Bool, List, map, ℤ}
use Rattle.book_files.specs.declared.orient.Orient.{Orient}
use Rattle.book_design.specs.declared.parts.Pin.{Pin}
use Rattle.book_design.specs.declared.parts.Node.{Node}
use Rattle.book_design.specs.declared.parts.Subrow.{Subrow}
use Rattle.book_design.specs.declared.parts.Core.{Core}

-- a node: its size, its lower left corner, and its orientation, in millionths
pub record NodeValue : Type 0 where
  pub name : List ℕ
  pub width : ℤ
  pub height : ℤ
  pub x : ℤ
  pub y : ℤ
  pub orient : Orient
  pub fixed : Bool
  pub overlap : Bool

-- a net: its weight, and its pins with the numbers of their nodes
pub record NetValue : Type 0 where
  pub weight : ℕ
  pub pins : List Pin

pub record DesignValue : Type 0 where
  pub nodes : List NodeValue
  pub nets : List NetValue
  pub subrows : List Subrow
  pub core : Core
  pub pitch : ℤ
  pub row_height : ℤ

abbrev pub node_value : Node → NodeValue
node_value n = record { name = n.name.0.now; width = n.width; height = n.height; x = n.x; y = n.y; orient = n.orient; fixed = n.fixed; overlap = n.overlap }

abbrev pub node_values : List Node → List NodeValue
node_values nodes = map node_value nodes

-- What holds of every joined design.
use Rattle.std.specs.Prelude.{◌≡◌, ◌⊎◌, ℕ, ◌^◌, ◌<◌, ◌≤◌, false, List, length, slice_index_or, ℤ, pos, ◌≤ℤ◌, ◌+ℤ◌, ◌*ℤ◌, ◌≢◌}
use Rattle.std.specs.List.{AllByRecursion, sum_by}
use Rattle.book_files.specs.Ranges.{IsInRange, IsName, IsMarkedWell}
use Rattle.book_design.specs.declared.rules.TheConstants.{MOST_NODES, MOST_PINS, MOST_SUBROWS, MOST_SITES, MOST_NET_WEIGHT, ROWS_END}
use Rattle.book_design.specs.declared.parts.Pin.{Pin}
use Rattle.book_design.specs.declared.parts.Subrow.{Subrow}
use Rattle.book_design.specs.declared.parts.Core.{Core}
use Rattle.book_design.specs.Values.{NodeValue, NetValue, DesignValue}
use Rattle.book_design.specs.Points.{node_value_at}

-- a node's numbers are in range, a movable one is no higher than a row, and only a fixed one allows overlap
pub record IsGoodNode (row_height : ℤ) (node : NodeValue) : Type 0 where
  pub name : IsName node.name
  pub width : IsInRange node.width
  pub height : IsInRange node.height
  pub width_sign : pos 0 ≤ℤ node.width
  pub height_sign : pos 0 ≤ℤ node.height
  pub x : IsInRange node.x
  pub y : IsInRange node.y
  pub low : node.fixed ≡ false → node.height ≤ℤ row_height
  pub marks : IsMarkedWell node.fixed node.overlap

-- a pin's node is there, and its offset is in range
pub record IsGoodPin (nodes : ℕ) (pin : Pin) : Type 0 where
  pub there : pin.node < nodes
  pub dx : IsInRange pin.dx
  pub dy : IsInRange pin.dy

pub record IsGoodNet (nodes : ℕ) (net : NetValue) : Type 0 where
  pub weight : net.weight ≤ MOST_NET_WEIGHT
  pub pins : AllByRecursion (IsGoodPin nodes) net.pins

-- a subrow begins within 1,000,000 units, and ends where rows may end at the latest
pub record IsGoodSubrow (pitch row_height : ℤ) (subrow : Subrow) : Type 0 where
  pub sites : subrow.sites ≤ MOST_SITES
  pub x : IsInRange subrow.x
  pub y : IsInRange subrow.y
  pub right : (subrow.x +ℤ pos subrow.sites *ℤ pitch) ≤ℤ ROWS_END
  pub upper : (subrow.y +ℤ row_height) ≤ℤ ROWS_END

-- past the end there is a subrow without sites
abbrev pub subrow_at : List Subrow → ℕ → Subrow
subrow_at subrows s = slice_index_or subrows s (record { row = 0; x = pos 0; y = pos 0; sites = 0 })

-- Two subrows stand apart where one has no site, or ends before the other begins, on one of the axes.
abbrev pub AreApart : ℤ → ℤ → Subrow → Subrow → Type 0
AreApart pitch row_height a b = (a.sites ≡ 0) ⊎ ((b.sites ≡ 0)
    ⊎ (((a.x +ℤ pos a.sites *ℤ pitch) ≤ℤ b.x) ⊎ (((b.x +ℤ pos b.sites *ℤ pitch) ≤ℤ a.x)
    ⊎ (((a.y +ℤ row_height) ≤ℤ b.y) ⊎ ((b.y +ℤ row_height) ≤ℤ a.y)))))

-- the core's ends lie within 1,000,000 units, and the lower ones are at most the upper ones
pub record IsGoodCore (core : Core) : Type 0 where
  pub xlo : IsInRange core.xlo
  pub xhi : IsInRange core.xhi
  pub ylo : IsInRange core.ylo
  pub yhi : IsInRange core.yhi
  pub wide : core.xlo ≤ℤ core.xhi
  pub high : core.ylo ≤ℤ core.yhi

pub record IsDesign (design : DesignValue) : Type 0 where
  pub few_nodes : length design.nodes ≤ MOST_NODES
  pub few_pins : sum_by (λ net. length net.pins) design.nets ≤ MOST_PINS
  pub few_nets : length design.nets < 2 ^ 32
  pub few_subrows : length design.subrows ≤ MOST_SUBROWS
  pub nodes : AllByRecursion (IsGoodNode design.row_height) design.nodes
  pub distinct : (i j : ℕ) → i < j → j < length design.nodes → (node_value_at design.nodes i).name ≢ (node_value_at design.nodes j).name
  pub nets : AllByRecursion (IsGoodNet (length design.nodes)) design.nets
  pub subrows : AllByRecursion (IsGoodSubrow design.pitch design.row_height) design.subrows
  pub apart : (s t : ℕ) → s < t → t < length design.subrows → AreApart design.pitch design.row_height (subrow_at design.subrows s) (subrow_at design.subrows t)
  pub core : IsGoodCore design.core
  pub pitch : IsInRange design.pitch
  pub row_height : IsInRange design.row_height
  pub pitch_sign : pos 1 ≤ℤ design.pitch
  pub height_sign : pos 1 ≤ℤ design.row_height

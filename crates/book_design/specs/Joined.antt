-- The joined design: what the lines of the files make together.
use Rattle.std.specs.Prelude.{◌≡◌, ℕ, ◌/◌, ◌<◌, Bool, ◌||◌, false, List, [], map, length, bytes_eq, slice_index_or, Option, Some, None, ℤ, pos, nat_abs, ◌≤ℤ◌}
use Rattle.std.specs.List.{position_or_len}
use Rattle.book_files.specs.declared.orient.Orient.TheVariants.{N}
use Rattle.book_files.specs.Entries.{NodeEntry, WeightEntry, PlaceEntry, PinEntry, NetEntry}
use Rattle.book_design.specs.declared.parts.Pin.{Pin}
use Rattle.book_design.specs.declared.parts.Subrow.{Subrow}
use Rattle.book_design.specs.declared.parts.Core.{Core}
use Rattle.book_design.specs.Records.{Records, Strip, last_place, last_weight, row_at, strips, strip_at}
use Rattle.book_design.specs.Values.{NodeValue, NetValue, DesignValue}

abbrev pub place_at : Records → ℕ → PlaceEntry
place_at records i = slice_index_or records.places i (record { line = 0; name = []; x = pos 0; y = pos 0; orient = N; fixed = false; overlap = false })

-- a node with the place that the placement file gives it last: without one it stands at (0, 0) and isn't turned
abbrev pub placed : NodeEntry → Option PlaceEntry → NodeValue
placed node None = record { name = node.name; width = node.width; height = node.height; x = pos 0; y = pos 0; orient = N; fixed = node.fixed; overlap = node.overlap }
placed node (Some place) = record { name = node.name; width = node.width; height = node.height; x = place.x; y = place.y; orient = place.orient; fixed = node.fixed || place.fixed; overlap = node.overlap || place.overlap }

abbrev pub joined_node : Records → NodeEntry → NodeValue
joined_node records node = placed node (last_place records node.name)

-- A node is fixed where its line marks it as a terminal, or the last line of its name in the placement file marks it. It allows
-- overlap where one of the two says so.
abbrev pub is_fixed : Records → NodeEntry → Bool
is_fixed records node = (joined_node records node).fixed

-- the number of the node of that name
abbrev pub number_of : Records → List ℕ → ℕ
number_of records name = position_or_len (λ node. bytes_eq node.name name) records.nodes

abbrev pub joined_pin : Records → PinEntry → Pin
joined_pin records pin = record { node = number_of records pin.node; dx = pin.dx; dy = pin.dy }

abbrev pub weight_or_one : Option WeightEntry → ℤ
weight_or_one None = pos 1000000
weight_or_one (Some line) = line.weight

abbrev pub named_weight : Records → Option (List ℕ) → ℤ
named_weight records None = pos 1000000
named_weight records (Some name) = weight_or_one (last_weight records name)

-- A net's weight in millionths is that of the last line of its name in the weights file, and 1 without a name, a line or a file.
abbrev pub weight_of : Records → NetEntry → ℤ
weight_of records net = named_weight records net.name

abbrev pub joined_net : Records → NetEntry → NetValue
joined_net records net = record { weight = nat_abs (weight_of records net) / 1000000; pins = map (joined_pin records) net.pins }

abbrev pub joined_subrow : Strip → Subrow
joined_subrow strip = record { row = strip.row; x = strip.left; y = strip.lower; sites = strip.sites }

-- a subrow that has a site
abbrev pub HasSite : Records → ℕ → Type 0
HasSite records s = (s < length (strips records)) × (0 < (strip_at records s).sites)

-- one of these subrows has this end
abbrev pub HasEnd : Records → (Strip → ℤ) → ℤ → Type 0
HasEnd records end value = (s : ℕ) × HasSite records s × (end (strip_at records s) ≡ value)

-- The core is the smallest rectangle around all subrows that have a site.
pub record IsCore (records : Records) (core : Core) : Type 0 where
  pub left : (s : ℕ) → HasSite records s → core.xlo ≤ℤ (strip_at records s).left
  pub right : (s : ℕ) → HasSite records s → (strip_at records s).right ≤ℤ core.xhi
  pub lower : (s : ℕ) → HasSite records s → core.ylo ≤ℤ (strip_at records s).lower
  pub upper : (s : ℕ) → HasSite records s → (strip_at records s).upper ≤ℤ core.yhi
  pub at_left : HasEnd records (λ strip. strip.left) core.xlo
  pub at_right : HasEnd records (λ strip. strip.right) core.xhi
  pub at_lower : HasEnd records (λ strip. strip.lower) core.ylo
  pub at_upper : HasEnd records (λ strip. strip.upper) core.yhi

-- The files make this design, which they do where they have no fault.
pub record Joins (records : Records) (design : DesignValue) : Type 0 where
  pub nodes : design.nodes ≡ map (joined_node records) records.nodes
  pub nets : design.nets ≡ map (joined_net records) records.nets
  pub subrows : design.subrows ≡ map joined_subrow (strips records)
  pub core : IsCore records design.core
  pub pitch : design.pitch ≡ (row_at records 0).pitch
  pub row_height : design.row_height ≡ (row_at records 0).height

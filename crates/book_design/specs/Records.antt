-- The lines of a design's files, before they are joined.
use Rattle.std.specs.Prelude.{ℕ, ◌+◌, List, [], ◌∷◌, ◌++◌, map, flat_map, bytes_eq, slice_index_or, Option, Some, None, false, ℤ, pos, ◌+ℤ◌, ◌*ℤ◌}
use Rattle.std.specs.List.{filter}
use Rattle.book_files.specs.Words.{last_of}
use Rattle.book_files.specs.Entries.{NodeEntry, WeightEntry, PlaceEntry, PinEntry, NetEntry, SubrowEntry, RowEntry}

pub record Records : Type 0 where
  pub nodes : List NodeEntry
  pub nets : List NetEntry
  pub weights : Option (List WeightEntry)
  pub places : List PlaceEntry
  pub rows : List RowEntry

abbrev pub weight_lines : Records → List WeightEntry
weight_lines records = lines records.weights where
  lines : Option (List WeightEntry) → List WeightEntry
  lines None = []
  lines (Some weights) = weights

-- the last line of the placement file with the name
abbrev pub last_place : Records → List ℕ → Option PlaceEntry
last_place records name = last_of (filter (λ place. bytes_eq place.name name) records.places)

-- the last line of the weights file with the name
abbrev pub last_weight : Records → List ℕ → Option WeightEntry
last_weight records name = last_of (filter (λ weight. bytes_eq weight.name name) (weight_lines records))

-- all pin lines in order
abbrev pub pin_lines : Records → List PinEntry
pin_lines records = flat_map (λ net. net.pins) records.nets

-- Past the end of a list stand lines without a name, a place or a size.
abbrev pub node_at : Records → ℕ → NodeEntry
node_at records i = slice_index_or records.nodes i (record { line = 0; name = []; width = pos 0; height = pos 0; fixed = false; overlap = false })

abbrev pub net_at : Records → ℕ → NetEntry
net_at records i = slice_index_or records.nets i (record { name = None; pins = [] })

abbrev pub pin_at : Records → ℕ → PinEntry
pin_at records i = slice_index_or (pin_lines records) i (record { line = 0; node = []; dx = pos 0; dy = pos 0 })

abbrev pub row_at : Records → ℕ → RowEntry
row_at records r = slice_index_or records.rows r (record { y = pos 0; height = pos 0; pitch = pos 0; subrows = [] })

-- A subrow's row by number, its rectangle in millionths, and how many sites it has. It reaches from its origin over its
-- sites times the pitch, and from the row's coordinate over the row's height.
pub record Strip : Type 0 where
  pub row : ℕ
  pub left : ℤ
  pub right : ℤ
  pub lower : ℤ
  pub upper : ℤ
  pub sites : ℕ

abbrev pub strip_of : ℕ → RowEntry → SubrowEntry → Strip
strip_of r row subrow = record {
  row = r;
  left = subrow.x;
  right = subrow.x +ℤ pos subrow.sites *ℤ row.pitch;
  lower = row.y;
  upper = row.y +ℤ row.height;
  sites = subrow.sites;
}

abbrev pub strips_from : ℕ → List RowEntry → List Strip
strips_from r [] = []
strips_from r (row ∷ rows) = map (strip_of r row) row.subrows ++ strips_from (1 + r) rows

-- all subrows in file order
abbrev pub strips : Records → List Strip
strips records = strips_from 0 records.rows

-- past the end there is a subrow without sites or area
abbrev pub strip_in : List Strip → ℕ → Strip
strip_in all s = slice_index_or all s (record { row = 0; left = pos 0; right = pos 0; lower = pos 0; upper = pos 0; sites = 0 })

abbrev pub strip_at : Records → ℕ → Strip
strip_at records s = strip_in (strips records) s

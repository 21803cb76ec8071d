-- The records of the files as the steps of the join are passed them.
use Rattle.std.specs.Prelude.{ℕ, List, [], Option, option_map, slice_index_or, bytes_eq, pos}
use Rattle.std.specs.List.{AllByRecursion, filter}
use Rattle.book_files.specs.Words.{last_of}
use Rattle.book_files.specs.Entries.{WeightEntry, node_entries, weight_entries, place_entries}
use Rattle.book_files.specs.Blocks.{net_entries, row_entries}
use Rattle.book_files.specs.Ranges.{IsNodeInRange, IsNetInRange, IsPlaceInRange, IsRowInRange}
use Rattle.book_design.specs.declared.sources.Sources.{Sources}
use Rattle.book_design.specs.Records.{Records, node_at, weight_lines}
use Rattle.book_design.specs.Joined.{place_at}

abbrev pub records_of : Sources → Records
records_of sources = record {
  nodes = node_entries sources.nodes.now;
  nets = net_entries sources.nets.now;
  weights = option_map (λ lines. weight_entries lines.now) sources.weights;
  places = place_entries sources.places.now;
  rows = row_entries sources.rows.now;
}

-- what the readers of the files ensure of their numbers
pub record AreInRange (records : Records) : Type 0 where
  pub nodes : AllByRecursion IsNodeInRange records.nodes
  pub nets : AllByRecursion IsNetInRange records.nets
  pub places : AllByRecursion IsPlaceInRange records.places
  pub rows : AllByRecursion IsRowInRange records.rows

-- the names of the lines, by number
abbrev pub node_name : Records → ℕ → List ℕ
node_name records i = (node_at records i).name

abbrev pub place_name : Records → ℕ → List ℕ
place_name records i = (place_at records i).name

abbrev pub entry_name : List WeightEntry → ℕ → List ℕ
entry_name lines i = (slice_index_or lines i (record { name = []; weight = pos 0 })).name

abbrev pub weight_name : Records → ℕ → List ℕ
weight_name records = entry_name (weight_lines records)

-- the last of these lines with the name
abbrev pub last_entry : List WeightEntry → List ℕ → Option WeightEntry
last_entry lines name = last_of (filter (λ weight. bytes_eq weight.name name) lines)

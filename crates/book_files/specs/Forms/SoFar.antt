-- What the readers keep of the items before.
use Rattle.std.specs.Prelude.{◌≡◌, ℕ, Bool, true, false, List, [], ◌∷◌, length, ◌==◌, is_some, Option, Some, None, option_map, option_to_list, if◌then◌else◌, filter_map}
use Rattle.book_files.specs.declared.fault.TextKind.{TextKind}
use Rattle.book_files.specs.declared.fault.TextKind.TheVariants.{BadHeader, BadLine, CountMismatch}
use Rattle.book_files.specs.declared.records.NodeLine.{NodeLine}
use Rattle.book_files.specs.declared.aux.AuxSoFar.{AuxSoFar}
use Rattle.book_files.specs.declared.nodes.NodesSoFar.{NodesSoFar}
use Rattle.book_files.specs.declared.weights.WeightsSoFar.{WeightsSoFar}
use Rattle.book_files.specs.declared.places.PlacesSoFar.{PlacesSoFar}
use Rattle.book_files.specs.declared.schedule.Event.{Event}
use Rattle.book_files.specs.declared.schedule.EventsSoFar.{EventsSoFar}
use Rattle.book_files.specs.Words.{latest}
use Rattle.book_files.specs.Entries.{AuxEntry, aux_entry, node_entries, weight_entries, place_entries}
use Rattle.book_files.specs.Nodes.{NodeItem, total_in, terminals_in, node_in}
use Rattle.book_files.specs.Weights.{WeightItem, weight_in}
use Rattle.book_files.specs.Places.{PlaceItem, place_in}

-- whether there are any
abbrev pub has_items : {I : Type 0} → List I → Bool
has_items [] = false
has_items (item ∷ items) = true

-- the one line's names, or none
abbrev pub IsAuxSoFar : List AuxEntry → AuxSoFar → Type 0
IsAuxSoFar items so_far = items ≡ option_to_list (option_map aux_entry so_far.file)

pub record IsNodesSoFar (items : List NodeItem) (so_far : NodesSoFar) : Type 0 where
  pub begun : so_far.begun ≡ has_items items
  pub total : so_far.total ≡ latest total_in items
  pub terminals : so_far.terminals_stated ≡ is_some (latest terminals_in items)
  pub lines : node_entries so_far.lines.items ≡ filter_map node_in items

-- the fault where no line follows, if there is one
abbrev pub end_fault : NodesSoFar → Option TextKind
end_fault so_far = if so_far.begun then stated_fault so_far.total so_far.lines.items else Some BadHeader where
  stated_fault : Option ℕ → List NodeLine → Option TextKind
  stated_fault None lines = Some BadLine
  stated_fault (Some n) lines = if n == length lines then None else Some (CountMismatch n (length lines))

pub record IsWeightsSoFar (items : List WeightItem) (so_far : WeightsSoFar) : Type 0 where
  pub begun : so_far.begun ≡ has_items items
  pub lines : weight_entries so_far.lines.items ≡ filter_map weight_in items

pub record IsPlacesSoFar (items : List PlaceItem) (so_far : PlacesSoFar) : Type 0 where
  pub begun : so_far.begun ≡ has_items items
  pub lines : place_entries so_far.lines.items ≡ filter_map place_in items

-- the events are the items
abbrev pub AreEventsSoFar : List Event → EventsSoFar → Type 0
AreEventsSoFar items so_far = items ≡ so_far.events.items

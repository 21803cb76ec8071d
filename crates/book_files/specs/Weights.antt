-- The weights file: a header, and lines of a name and a weight.
use Rattle.std.specs.Prelude.{Option, Some, None}
use Rattle.book_files.specs.Entries.{WeightEntry}

-- what a line of a weights file is
pub data WeightItem : Type 0 where
  header : WeightItem
  weighed : WeightEntry → WeightItem

abbrev pub weight_in : WeightItem → Option WeightEntry
weight_in header = None
weight_in (weighed entry) = Some entry

-- The rules of the weights file: a header, and lines of a name and a weight, behind which anything may stand.
use Rattle.std.specs.Prelude.{◌≡◌, ◌≢◌, ℕ, ◌≤◌, List, [], length, codes, filter_map}
use Rattle.book_text.specs.Lines.{NumberedLine}
use Rattle.book_files.specs.Grammar.{Grammar}
use Rattle.book_files.specs.Shapes.{word_at, IsNumber, HasNumber, IsHeaderLine, IsShapeFault, IsEmptyFault}
use Rattle.book_files.specs.Entries.{WeightEntry}
use Rattle.book_files.specs.Weights.{WeightItem, header, weighed, weight_in}

abbrev pub HasWeightsShape : List WeightItem → List (List ℕ) → Type 0
HasWeightsShape before words = 2 ≤ length words

abbrev pub HasWeightsNumbers : List (List ℕ) → Type 0
HasWeightsNumbers words = HasNumber (word_at words 1)

-- the line is the weight's
pub record IsWeightLine (line : NumberedLine) (entry : WeightEntry) : Type 0 where
  pub shape : 2 ≤ length line.words
  pub name : entry.name ≡ word_at line.words 0
  pub weight : IsNumber (word_at line.words 1) entry.weight

abbrev pub IsWeightsItem : List WeightItem → NumberedLine → WeightItem → Type 0
IsWeightsItem before line header = IsHeaderLine (codes "wts") before line
IsWeightsItem before line (weighed entry) = (before ≢ []) × IsWeightLine line entry

-- the weights are the weight lines in order
abbrev pub IsWeightsFile : List WeightItem → List WeightEntry → Type 0
IsWeightsFile items weights = (items ≢ []) × (weights ≡ filter_map weight_in items)

abbrev pub weights_grammar : Grammar WeightItem (List WeightEntry)
weights_grammar = record {
  IsItem = IsWeightsItem;
  IsLineFault = IsShapeFault (codes "wts") HasWeightsShape HasWeightsNumbers;
  IsFile = IsWeightsFile;
  IsEndFault = IsEmptyFault;
}

-- The weights that a text reads as are few and in range.
use Rattle.std.proofs.Common.{◌≡◌, ℕ, ◌≤◌, List, [], ◌∷◌, length, Ok, Err, IfOk, codes}
use Rattle.std.specs.Option.{IfSome}
use Rattle.std.specs.List.{AllByRecursion, filter_map}
use Rattle.book_text.specs.Lines.{NumberedLine, content_of}
use Rattle.book_files.specs.declared.fault.TextKind.TheVariants.{BadHeader}
use Rattle.book_files.specs.Words.{is_header}
use Rattle.book_files.specs.Forms.Words.{number_of}
use Rattle.book_files.specs.Entries.{WeightEntry}
use Rattle.book_files.specs.Weights.{WeightItem, header, weighed, weight_in}
use Rattle.book_files.specs.Forms.Weights.{weight_of, weight_meaning, weight_ending, weight_form}
use Rattle.book_files.proofs.FormTexts.{Reads}
use Rattle.book_files.specs.Ranges.{IsInRange, IsWeightInRange}
use Rattle.book_files.proofs.FewRecords.{any_lines, records_few, records_good}
use Rattle.book_files.proofs.GoodRecords.{bind_good, if_good, number_good}

abbrev IsGoodItem : WeightItem → Type 0
IsGoodItem item = IfSome (weight_in item) IsWeightInRange

line_good : (words : List (List ℕ)) → IfOk (weight_of words) IsGoodItem
line_good [] = tt
line_good (name ∷ []) = tt
line_good (name ∷ weight ∷ rest) = bind_good IsInRange IsGoodItem (number_of weight) (λ w. Ok (weighed (record { name = name; weight = w }))) (number_good weight) (λ w good. good)

meaning_good : (before : List WeightItem) (line : NumberedLine) → IfOk (weight_meaning before line) IsGoodItem
meaning_good [] line = if_good IsGoodItem (is_header (codes "wts") line.words) (Ok header) (Err BadHeader) tt tt
meaning_good (item ∷ items) line = line_good line.words

ending_is : (weights : List WeightEntry) (items : List WeightItem) → weight_ending items ≡ Ok weights → weights ≡ filter_map weight_in items
ending_is weights [] ends = cc
ending_is weights (item ∷ items) ends = cc

pub weights_few : (text : List ℕ) (weights : List WeightEntry) → Reads weight_form text weights → length weights ≤ length text
weights_few text weights reads = records_few weight_form weight_in text weights (ending_is weights) reads

pub weights_good : (text : List ℕ) (weights : List WeightEntry) → Reads weight_form text weights → AllByRecursion IsWeightInRange weights
weights_good text weights reads = records_good weight_form weight_in text weights (ending_is weights) reads (λ line. Unit {0}) IsWeightInRange (any_lines (content_of text)) (λ before line any. meaning_good before line)

-- The weights file: a header, and lines of a name and a weight.
use Rattle.std.specs.Prelude.{ℕ, List, [], ◌∷◌, codes, Result, Ok, Err, if◌then◌else◌, filter_map}
use Rattle.book_text.specs.Lines.{NumberedLine}
use Rattle.book_files.specs.declared.fault.TextKind.{TextKind}
use Rattle.book_files.specs.declared.fault.TextKind.TheVariants.{BadHeader, BadLine}
use Rattle.book_files.specs.Forms.Form.{Form}
use Rattle.book_files.specs.Words.{is_header}
use Rattle.book_files.specs.Forms.Words.{◌>>=◌, number_of}
use Rattle.book_files.specs.Entries.{WeightEntry}
use Rattle.book_files.specs.Weights.{WeightItem, weight_in}
use Rattle.book_files.specs.Weights.WeightItem.{header, weighed}

-- a name and a number; what stands behind them isn't read
abbrev pub weight_of : List (List ℕ) → Result WeightItem TextKind
weight_of (name ∷ weight ∷ rest) = number_of weight >>= λ w. Ok (weighed (record { name = name; weight = w }))
weight_of [] = Err BadLine
weight_of (name ∷ []) = Err BadLine

abbrev pub weight_meaning : List WeightItem → NumberedLine → Result WeightItem TextKind
weight_meaning [] line = if is_header (codes "wts") line.words then Ok header else Err BadHeader
weight_meaning (item ∷ items) line = weight_of line.words

abbrev pub weight_ending : List WeightItem → Result (List WeightEntry) TextKind
weight_ending [] = Err BadHeader
weight_ending (item ∷ items) = Ok (filter_map weight_in (item ∷ items))

abbrev pub weight_form : Form WeightItem (List WeightEntry)
weight_form = record { meaning = weight_meaning; ending = weight_ending }

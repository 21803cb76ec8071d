-- Words of a line by place, numbers that words spell, and the shapes that several files share.
use Rattle.std.specs.Prelude.{◌≡◌, ℕ, List, [], ◌∷◌, length, slice_index_or, IsTrue, IsFalse, ℤ, pos, ◌≤ℤ◌, ◌<ℤ◌, Option, None, Ok}
use Rattle.book_text.specs.Lines.{NumberedLine}
use Rattle.book_text.specs.Whole.{whole_value}
use Rattle.book_text.specs.Decimal.{micro_value}
use Rattle.book_files.specs.declared.fault.TextKind.{TextKind}
use Rattle.book_files.specs.declared.fault.TextKind.TheVariants.{BadHeader, BadLine, BadNumber, CountMismatch}
use Rattle.book_files.specs.Words.{latest, is_header, is_keyed}

-- the word at a place, none past the end
abbrev pub word_at : List (List ℕ) → ℕ → List ℕ
word_at words i = slice_index_or words i []

-- the word spells a whole number in range
abbrev pub IsWhole : List ℕ → ℕ → Type 0
IsWhole word n = whole_value word ≡ Ok n

-- the word spells a number in range, in millionths
abbrev pub IsNumber : List ℕ → ℤ → Type 0
IsNumber word value = micro_value word ≡ Ok value

-- the same of a number that isn't negative
abbrev pub IsSize : List ℕ → ℤ → Type 0
IsSize word value = IsNumber word value × (pos 0 ≤ℤ value)

-- the same of a number above 0
abbrev pub IsPositive : List ℕ → ℤ → Type 0
IsPositive word value = IsNumber word value × (pos 0 <ℤ value)

abbrev pub HasWhole : List ℕ → Type 0
HasWhole word = (n : ℕ) × IsWhole word n

abbrev pub HasNumber : List ℕ → Type 0
HasNumber word = (value : ℤ) × IsNumber word value

abbrev pub HasSize : List ℕ → Type 0
HasSize word = (value : ℤ) × IsSize word value

abbrev pub HasPositive : List ℕ → Type 0
HasPositive word = (value : ℤ) × IsPositive word value

-- `KEYWORD : word`, and no item before states what such a line states
pub record IsOnceShape {I A : Type 0} (key : List ℕ) (stated : I → Option A) (before : List I) (words : List (List ℕ)) : Type 0 where
  pub keyed : IsTrue (is_keyed key words)
  pub three : length words ≡ 3
  pub once : latest stated before ≡ None

-- the first line is the header
abbrev pub IsHeaderLine : {I : Type 0} → List ℕ → List I → NumberedLine → Type 0
IsHeaderLine kind before line = (before ≡ []) × IsTrue (is_header kind line.words)

-- What is named at a line: another first line than the header; behind the header another shape than one of the file's, and
-- then a word in a number's place that isn't a number in its range.
abbrev pub IsShapeFault : {I : Type 0} → List ℕ → (List I → List (List ℕ) → Type 0) → (List (List ℕ) → Type 0) → List I → NumberedLine → TextKind → Type 0
IsShapeFault kind HasShape HasNumbers [] line BadHeader = IsFalse (is_header kind line.words)
IsShapeFault kind HasShape HasNumbers [] line BadLine = ⊥
IsShapeFault kind HasShape HasNumbers [] line BadNumber = ⊥
IsShapeFault kind HasShape HasNumbers [] line (CountMismatch stated found) = ⊥
IsShapeFault kind HasShape HasNumbers (item ∷ before) line BadHeader = ⊥
IsShapeFault kind HasShape HasNumbers (item ∷ before) line BadLine = HasShape (item ∷ before) line.words → ⊥
IsShapeFault kind HasShape HasNumbers (item ∷ before) line BadNumber = HasShape (item ∷ before) line.words × (HasNumbers line.words → ⊥)
IsShapeFault kind HasShape HasNumbers (item ∷ before) line (CountMismatch stated found) = ⊥

-- no line at all is the one fault at the end of a file without counts
abbrev pub IsEmptyFault : {I : Type 0} → List I → TextKind → Type 0
IsEmptyFault [] BadHeader = Unit {0}
IsEmptyFault [] BadLine = ⊥
IsEmptyFault [] BadNumber = ⊥
IsEmptyFault [] (CountMismatch stated found) = ⊥
IsEmptyFault (item ∷ items) kind = ⊥

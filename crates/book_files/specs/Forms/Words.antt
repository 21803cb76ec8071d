-- Keywords, numbers, marks and count lines.
use Rattle.std.specs.Prelude.{ℕ, Bool, List, [], ◌∷◌, ℤ, pos, int_lt, Option, Some, None, Result, Ok, Err, if◌then◌else◌}
use Rattle.book_text.specs.declared.number.NumberFault.{NumberFault}
use Rattle.book_text.specs.Whole.{whole_value}
use Rattle.book_text.specs.Decimal.{micro_value}
use Rattle.book_files.specs.declared.fault.TextKind.{TextKind}
use Rattle.book_files.specs.declared.fault.TextKind.TheVariants.{BadLine, BadNumber}

-- goes on with the value, or keeps the fault
infixl 10 ◌>>=◌
abbrev pub ◌>>=◌ : {A B : Type 0} → Result A TextKind → (A → Result B TextKind) → Result B TextKind
(Ok x) >>= f = f x
(Err kind) >>= f = Err kind

-- a number in its range, or BadNumber
abbrev pub number_of_result : {A : Type 0} → Result A NumberFault → Result A TextKind
number_of_result (Ok value) = Ok value
number_of_result (Err fault) = Err BadNumber

-- a number in millionths
abbrev pub number_of : List ℕ → Result ℤ TextKind
number_of word = number_of_result (micro_value word)

abbrev pub whole_of : List ℕ → Result ℕ TextKind
whole_of word = number_of_result (whole_value word)

abbrev pub unless_negative : ℤ → Result ℤ TextKind
unless_negative value = if int_lt value (pos 0) then Err BadNumber else Ok value

-- a number that isn't negative
abbrev pub size_of : List ℕ → Result ℤ TextKind
size_of word = number_of word >>= unless_negative

-- goes on with whether a mark allows overlap, where the word is a mark
abbrev pub marked : {A : Type 0} → Option Bool → (Bool → Result A TextKind) → Result A TextKind
marked (Some overlap) make = make overlap
marked None make = Err BadLine

-- A keyed line is a count line: three words, of which the last is a whole word. It may stand once, whatever its number is.
abbrev pub count_of : Bool → List (List ℕ) → Result ℕ TextKind
count_of stood (key ∷ colon ∷ number ∷ []) = if stood then Err BadLine else whole_of number
count_of stood [] = Err BadLine
count_of stood (key ∷ []) = Err BadLine
count_of stood (key ∷ colon ∷ []) = Err BadLine
count_of stood (key ∷ colon ∷ number ∷ more ∷ rest) = Err BadLine

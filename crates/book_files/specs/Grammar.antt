-- The reading of a whole text, and its first fault, by the rules of a kind of file. The rules are relations: what a line is
-- behind the lines before it, which fault is named at it, what all lines make, and which fault is named at the end.
use Rattle.std.specs.Prelude.{◌≡◌, ◌⊎◌, ℕ, List, [], ◌∷◌, ◌++◌, Result, Ok, Err}
use Rattle.book_text.specs.Lines.{NumberedLine, content_of, end_line}
use Rattle.book_files.specs.declared.fault.TextKind.{TextKind}
use Rattle.book_files.specs.declared.fault.TextFault.{TextFault}
use Rattle.book_files.specs.declared.fault.ReadError.{ReadError}
use Rattle.book_files.specs.declared.fault.ReadError.TheVariants.{Fault, Memory}

-- The rules of a kind of file. An item is what a line is: a header, a count, a record.
pub record Grammar (I R : Type 0) : Type 1 where
  pub IsItem : List I → NumberedLine → I → Type 0  -- behind these items, the line is this item
  pub IsLineFault : List I → NumberedLine → TextKind → Type 0  -- behind these items, this is the first fault named at the line
  pub IsFile : List I → R → Type 0  -- the items make these records, and each stated count is right
  pub IsEndFault : List I → TextKind → Type 0  -- this is the first fault named where no line follows

-- the lines are these items, one after another, behind the items before them
abbrev pub AreItems : {I R : Type 0} → Grammar I R → List I → List NumberedLine → List I → Type 0
AreItems grammar before [] [] = Unit {0}
AreItems grammar before [] (item ∷ items) = ⊥
AreItems grammar before (line ∷ lines) [] = ⊥
AreItems grammar before (line ∷ lines) (item ∷ items) = grammar.IsItem before line item × AreItems grammar (before ++ item ∷ []) lines items

-- the text reads as these records: each of its lines that isn't passed over is an item, and the items make the records
pub record IsReading {I R : Type 0} (grammar : Grammar I R) (text : List ℕ) (records : R) : Type 0 where
  pub items : List I
  pub each : AreItems grammar [] (content_of text) items
  pub file : grammar.IsFile items records

-- each line before this one is an item, and the fault is the first that is named at this line
pub record IsFaultAtLine {I R : Type 0} (grammar : Grammar I R) (text : List ℕ) (fault : TextFault) : Type 0 where
  pub front : List NumberedLine
  pub line : NumberedLine
  pub rest : List NumberedLine
  pub lines : content_of text ≡ front ++ line ∷ rest
  pub items : List I
  pub each : AreItems grammar [] front items
  pub named : grammar.IsLineFault items line fault.kind
  pub number : fault.line ≡ line.number

-- each line is an item, and the fault is the first that is named at the end
pub record IsFaultAtEnd {I R : Type 0} (grammar : Grammar I R) (text : List ℕ) (fault : TextFault) : Type 0 where
  pub items : List I
  pub each : AreItems grammar [] (content_of text) items
  pub named : grammar.IsEndFault items fault.kind
  pub number : fault.line ≡ end_line text

-- The fault stands at the least line at which one is named, and is the first that is named there: each line before it is an
-- item, and a line that is an item names no fault (`least` of `HasOneAnswer`).
abbrev pub IsFirstFault : {I R : Type 0} → Grammar I R → List ℕ → TextFault → Type 0
IsFirstFault grammar text fault = IsFaultAtLine grammar text fault ⊎ IsFaultAtEnd grammar text fault

-- The answer, seen by view, is what the text reads as, or exactly its first fault. Want of memory may come at any time.
abbrev pub Answers : {A I R : Type 0} → Grammar I R → (A → R) → List ℕ → Result A ReadError → Type 0
Answers grammar view text (Ok answer) = IsReading grammar text (view answer)
Answers grammar view text (Err (Fault fault)) = IsFirstFault grammar text fault
Answers grammar view text (Err Memory) = Unit {0}

-- A text reads as some records or has a first fault, never both, with one value. A fault is named only where the line is no
-- item, so that the line of the first fault is the least one; and a fault is named there at most once.
pub record HasOneAnswer {I R : Type 0} (grammar : Grammar I R) (text : List ℕ) : Type 0 where
  pub some : ((records : R) × IsReading grammar text records) ⊎ ((fault : TextFault) × IsFirstFault grammar text fault)
  pub one_reading : (a b : R) → IsReading grammar text a → IsReading grammar text b → a ≡ b
  pub one_fault : (a b : TextFault) → IsFirstFault grammar text a → IsFirstFault grammar text b → a ≡ b
  pub not_both : (records : R) (fault : TextFault) → IsReading grammar text records → IsFirstFault grammar text fault → ⊥
  pub least : (before : List I) (line : NumberedLine) (item : I) (kind : TextKind) → grammar.IsItem before line item → grammar.IsLineFault before line kind → ⊥

-- The reading of a whole text by a form, and its first fault.
use Rattle.std.specs.Prelude.{◌≡◌, ◌⊎◌, ℕ, List, [], ◌∷◌, ◌++◌, Result, Ok, Err}
use Rattle.book_text.specs.Lines.{NumberedLine, content_of, end_line}
use Rattle.book_files.specs.declared.fault.TextFault.{TextFault}
use Rattle.book_files.specs.declared.fault.ReadError.{ReadError}
use Rattle.book_files.specs.declared.fault.ReadError.TheVariants.{Fault, Memory}
use Rattle.book_files.specs.Forms.Form.{Form, Mean}

-- the text reads as these records
pub record Reads {I R : Type 0} (form : Form I R) (text : List ℕ) (records : R) : Type 0 where
  pub items : List I
  pub mean : Mean form [] (content_of text) items
  pub make : form.ending items ≡ Ok records

-- each line before this one has its meaning, and this is the first fault of this line
pub record FaultAtLine {I R : Type 0} (form : Form I R) (text : List ℕ) (fault : TextFault) : Type 0 where
  pub front : List NumberedLine
  pub line : NumberedLine
  pub rest : List NumberedLine
  pub lines : content_of text ≡ front ++ line ∷ rest
  pub items : List I
  pub mean : Mean form [] front items
  pub first : form.meaning items line ≡ Err fault.kind
  pub number : fault.line ≡ line.number

-- each line has its meaning, and this is the first fault at the end
pub record FaultAtEnd {I R : Type 0} (form : Form I R) (text : List ℕ) (fault : TextFault) : Type 0 where
  pub items : List I
  pub mean : Mean form [] (content_of text) items
  pub first : form.ending items ≡ Err fault.kind
  pub number : fault.line ≡ end_line text

-- the fault stands at the least line at which one is named, and is the first that is named there
abbrev pub FirstFault : {I R : Type 0} → Form I R → List ℕ → TextFault → Type 0
FirstFault form text fault = FaultAtLine form text fault ⊎ FaultAtEnd form text fault

-- The answer, seen by view, is what the text reads as, or exactly its first fault. Want of memory may come at any time.
abbrev pub FormAnswers : {A I R : Type 0} → Form I R → (A → R) → List ℕ → Result A ReadError → Type 0
FormAnswers form view text (Ok answer) = Reads form text (view answer)
FormAnswers form view text (Err (Fault fault)) = FirstFault form text fault
FormAnswers form view text (Err Memory) = Unit {0}

-- What a reader has of the lines before, whatever the kind of file, and what a walk over the lines of a text leaves.
use Rattle.std.specs.Prelude.{◌≡◌, ℕ, List, [], ◌∷◌, ◌++◌, Result, Ok, Err}
use Rattle.book_text.specs.Lines.{NumberedLine, content_of}
use Rattle.book_files.specs.Forms.Form.{Form, Mean}
use Rattle.book_files.specs.declared.fault.TextKind.{TextKind}
use Rattle.book_files.specs.declared.fault.TextFault.{TextFault}
use Rattle.book_files.specs.declared.fault.ReadError.{ReadError}
use Rattle.book_files.specs.declared.fault.ReadError.TheVariants.{Fault, Memory}
use Rattle.book_files.specs.declared.fault.LineError.{LineError}
use Rattle.book_files.specs.declared.fault.LineError.TheVariants.{Kind, Memory as NoMemory}

-- what a call answers, seen by view, is what the definition answers
abbrev pub Gives : {X Y K : Type 0} → (X → Y) → Result X K → Result Y K → Type 0
Gives view (Ok x) answer = answer ≡ Ok (view x)
Gives view (Err kind) answer = answer ≡ Err kind

-- the same, with the number of the line
abbrev pub error_at : ℕ → LineError → ReadError
error_at number (Kind kind) = Fault (record { line = number; kind = kind })
error_at number NoMemory = Memory

-- A line is kept: what stood for the lines before stands for one line more. Or it is refused, with its first fault.
abbrev pub Keeps : {P A : Type 0} → (P → List NumberedLine → Type 0) → (List NumberedLine → NumberedLine → TextKind → Type 0) → P → P → NumberedLine → Result A LineError → Type 0
Keeps stands_for refuses old new line (Ok done) = (lines : List NumberedLine) → stands_for old lines → stands_for new (lines ++ line ∷ [])
Keeps stands_for refuses old new line (Err (Kind kind)) = (lines : List NumberedLine) → stands_for old lines → refuses lines line kind
Keeps stands_for refuses old new line (Err NoMemory) = Unit {0}

-- The lines have items by the form, of which the progress has what is needed.
pub record StandsFor {I R P : Type 0} (form : Form I R) (IsSoFar : List I → P → Type 0) (progress : P) (lines : List NumberedLine) : Type 0 where
  pub items : List I
  pub mean : Mean form [] lines items
  pub so_far : IsSoFar items progress

-- Behind the items of these lines, this is the first fault of the line.
pub record Refuses {I R : Type 0} (form : Form I R) (lines : List NumberedLine) (line : NumberedLine) (kind : TextKind) : Type 0 where
  pub items : List I
  pub mean : Mean form [] lines items
  pub first : form.meaning items line ≡ Err kind

-- a line of the text is refused, and no line before it
pub record RefusesAt (refuses : List NumberedLine → NumberedLine → TextKind → Type 0) (text : List ℕ) (fault : TextFault) : Type 0 where
  pub front : List NumberedLine
  pub line : NumberedLine
  pub rest : List NumberedLine
  pub lines : content_of text ≡ front ++ line ∷ rest
  pub refused : refuses front line fault.kind
  pub number : fault.line ≡ line.number

-- All lines are kept, or the first that is refused is the answer.
abbrev pub KeepsLines : {P A : Type 0} → (P → List NumberedLine → Type 0) → (List NumberedLine → NumberedLine → TextKind → Type 0) → P → List ℕ → Result A ReadError → Type 0
KeepsLines stands_for refuses new text (Ok done) = stands_for new (content_of text)
KeepsLines stands_for refuses new text (Err (Fault fault)) = RefusesAt refuses text fault
KeepsLines stands_for refuses new text (Err Memory) = Unit {0}

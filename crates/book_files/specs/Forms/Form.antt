-- The rules of a kind of file as a function of a line and of the lines before it, as the code decides them.
use Rattle.std.specs.Prelude.{◌≡◌, List, [], ◌∷◌, ◌++◌, Result, Ok}
use Rattle.book_text.specs.Lines.{NumberedLine}
use Rattle.book_files.specs.declared.fault.TextKind.{TextKind}

-- A kind of file: what a line is, behind the items of the lines before it, or its first fault; and what all items make, or the
-- first fault that is seen at the end of the text.
pub record Form (I R : Type 0) : Type 0 where
  pub meaning : List I → NumberedLine → Result I TextKind
  pub ending : List I → Result R TextKind

-- the items are what the lines mean, one after another, behind the items before them
abbrev pub Mean : {I R : Type 0} → Form I R → List I → List NumberedLine → List I → Type 0
Mean form before [] [] = Unit {0}
Mean form before [] (item ∷ items) = ⊥
Mean form before (line ∷ lines) [] = ⊥
Mean form before (line ∷ lines) (item ∷ items) = (form.meaning before line ≡ Ok item) × Mean form (before ++ item ∷ []) lines items

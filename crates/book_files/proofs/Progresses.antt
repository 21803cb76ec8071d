-- A reader's step, for any form of file.
use Rattle.std.proofs.Common.{◌≡◌, List, [], ◌∷◌, ◌++◌, Ok, Err, append_assoc}
use Rattle.std.proofs.lemmas.List.{append-nil}
use Rattle.book_text.specs.Lines.{NumberedLine}
use Rattle.book_files.specs.declared.fault.TextKind.{TextKind}
use Rattle.book_files.specs.Forms.Form.{Form, Mean}
use Rattle.book_files.specs.Forms.Progress.{StandsFor, Refuses}

-- one line more, with its meaning
mean_more : {I R : Type 0} (form : Form I R) (before : List I) (lines : List NumberedLine) (items : List I) (line : NumberedLine) (item : I)
    → Mean form before lines items → form.meaning (before ++ items) line ≡ Ok item → Mean form before (lines ++ line ∷ []) (items ++ item ∷ [])
mean_more form before [] [] line item mean means = (rw append-nil at means, tt)
mean_more form before [] (other ∷ items) line item mean means = absurd mean
mean_more form before (first ∷ lines) [] line item mean means = absurd mean
mean_more form before (first ∷ lines) (other ∷ items) line item mean means =
    (mean.0, mean_more form (before ++ other ∷ []) lines items line item mean.1 (rw (append_assoc before (other ∷ []) items) means))

module _ {I R P : Type 0} (form : Form I R) (IsSoFar : List I → P → Type 0) (lines : List NumberedLine) (line : NumberedLine) where
  -- a line with a meaning is kept
  pub kept : (old new : P) (item : I) → ((items : List I) → IsSoFar items old → (form.meaning items line ≡ Ok item) × IsSoFar (items ++ item ∷ []) new)
      → StandsFor form IsSoFar old lines → StandsFor form IsSoFar new (lines ++ line ∷ [])
  kept old new item step before = let next = step before.items before.so_far in
      record { items = before.items ++ item ∷ []; mean = mean_more form [] lines before.items line item before.mean next.0; so_far = next.1 }

  -- a line with a fault is refused
  pub refused : (old : P) (kind : TextKind) → ((items : List I) → IsSoFar items old → form.meaning items line ≡ Err kind)
      → StandsFor form IsSoFar old lines → Refuses form lines line kind
  refused old kind step before = record { items = before.items; mean = before.mean; first = step before.items before.so_far }

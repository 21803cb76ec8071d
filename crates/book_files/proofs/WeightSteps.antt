-- The steps of the weights reader.
use Rattle.std.proofs.Common.{◌≡◌, true, false, List, [], ◌∷◌, ◌++◌, Ok, Err, codes, if◌then◌else◌, refl, sym, ◌∙◌}
use Rattle.std.proofs.lemmas.Bool.{cond-true}
use Rattle.book_text.specs.Lines.{NumberedLine}
use Rattle.book_files.specs.declared.fault.TextKind.TheVariants.{BadHeader}
use Rattle.book_files.specs.declared.records.WeightLine.{WeightLine}
use Rattle.book_files.specs.declared.weights.WeightsSoFar.{WeightsSoFar}
use Rattle.book_files.specs.Words.{is_header}
use Rattle.book_files.specs.Entries.{weight_entry}
use Rattle.book_files.specs.Weights.{WeightItem, header, weighed, weight_in}
use Rattle.book_files.specs.Forms.Weights.{weight_of, weight_meaning, weight_form}
use Rattle.book_files.specs.Forms.Progress.{StandsFor}
use Rattle.book_files.specs.Forms.SoFar.{has_items, IsWeightsSoFar}
use Rattle.book_files.proofs.Items.{has_items-push, kept-yes, kept-no}
use Rattle.book_files.proofs.Progresses.{kept}

meaning_first : (items : List WeightItem) (line : NumberedLine) → has_items items ≡ false → weight_meaning items line ≡ (if is_header (codes "wts") line.words then Ok header else Err BadHeader)
meaning_first [] line none = refl
meaning_first (item ∷ items) line none = cc

meaning_begun : (items : List WeightItem) (line : NumberedLine) → has_items items ≡ true → weight_meaning items line ≡ weight_of line.words
meaning_begun [] line begun = cc
meaning_begun (item ∷ items) line begun = refl

module _ (line : NumberedLine) (old new : WeightsSoFar) where
  pub header_kept : old.begun ≡ false → is_header (codes "wts") line.words ≡ true → new.begun ≡ true → new.lines.items ≡ old.lines.items
      → (lines : List NumberedLine) → StandsFor weight_form IsWeightsSoFar old lines → StandsFor weight_form IsWeightsSoFar new (lines ++ line ∷ [])
  header_kept none is begun same lines before = kept weight_form IsWeightsSoFar lines line old new header (λ items so_far. (
    meaning_first items line (sym so_far.begun ∙ none) ∙ cond-true _ _ _ is,
    record { begun = begun ∙ sym (has_items-push items header); lines = rw same (kept-no weight_in items header weight_entry old.lines.items refl so_far.lines) },
  )) before

  pub weight_kept : (weight : WeightLine) → old.begun ≡ true → weight_of line.words ≡ Ok (weighed (weight_entry weight)) → new.begun ≡ true → new.lines.items ≡ old.lines.items ++ weight ∷ []
      → (lines : List NumberedLine) → StandsFor weight_form IsWeightsSoFar old lines → StandsFor weight_form IsWeightsSoFar new (lines ++ line ∷ [])
  weight_kept weight some means begun pushed lines before = let item = weighed (weight_entry weight) in kept weight_form IsWeightsSoFar lines line old new item (λ items so_far. (
    meaning_begun items line (sym so_far.begun ∙ some) ∙ means,
    record { begun = begun ∙ sym (has_items-push items item); lines = kept-yes weight_in items item weight_entry old.lines.items new.lines.items weight refl pushed so_far.lines },
  )) before

-- The steps of the placement reader.
use Rattle.std.proofs.Common.{◌≡◌, ℕ, ◌<◌, ◌≤◌, length, map, arith, true, false, List, [], ◌∷◌, ◌++◌, Ok, Err, codes, if◌then◌else◌, refl, sym, ◌∙◌}
use Rattle.std.proofs.lemmas.Bool.{cond-true}
use Rattle.book_text.specs.Lines.{NumberedLine}
use Rattle.book_files.specs.declared.fault.TextKind.TheVariants.{BadHeader, BadLine}
use Rattle.book_files.specs.declared.records.PlaceLine.{PlaceLine}
use Rattle.book_files.specs.declared.places.PlacesSoFar.{PlacesSoFar}
use Rattle.book_files.specs.Words.{is_header}
use Rattle.book_files.specs.Entries.{place_entry}
use Rattle.book_files.specs.Places.{PlaceItem, header, placed, place_in}
use Rattle.book_files.specs.Forms.Places.{place_of, place_meaning, place_form}
use Rattle.book_files.specs.Forms.Progress.{StandsFor}
use Rattle.book_files.specs.Forms.SoFar.{has_items, IsPlacesSoFar}
use Rattle.book_files.proofs.Items.{has_items-push, kept-yes, kept-no}
use Rattle.book_files.proofs.Progresses.{kept}

meaning_first : (items : List PlaceItem) (line : NumberedLine) → has_items items ≡ false → place_meaning items line ≡ (if is_header (codes "pl") line.words then Ok header else Err BadHeader)
meaning_first [] line none = refl
meaning_first (item ∷ items) line none = cc

meaning_begun : (items : List PlaceItem) (line : NumberedLine) → has_items items ≡ true → place_meaning items line ≡ place_of line.number line.words
meaning_begun [] line begun = cc
meaning_begun (item ∷ items) line begun = refl

module _ (line : NumberedLine) (old new : PlacesSoFar) where
  pub header_kept : old.begun ≡ false → is_header (codes "pl") line.words ≡ true → new.begun ≡ true → new.lines.items ≡ old.lines.items
      → (lines : List NumberedLine) → StandsFor place_form IsPlacesSoFar old lines → StandsFor place_form IsPlacesSoFar new (lines ++ line ∷ [])
  header_kept none is begun same lines before = kept place_form IsPlacesSoFar lines line old new header (λ items so_far. (
    meaning_first items line (sym so_far.begun ∙ none) ∙ cond-true _ _ _ is,
    record { begun = begun ∙ sym (has_items-push items header); lines = rw same (kept-no place_in items header place_entry old.lines.items refl so_far.lines) },
  )) before

  pub place_kept : (place : PlaceLine) → old.begun ≡ true → place_of line.number line.words ≡ Ok (placed (place_entry place)) → new.begun ≡ true → new.lines.items ≡ old.lines.items ++ place ∷ []
      → (lines : List NumberedLine) → StandsFor place_form IsPlacesSoFar old lines → StandsFor place_form IsPlacesSoFar new (lines ++ line ∷ [])
  place_kept place some means begun pushed lines before = let item = placed (place_entry place) in kept place_form IsPlacesSoFar lines line old new item (λ items so_far. (
    meaning_begun items line (sym so_far.begun ∙ some) ∙ means,
    record { begun = begun ∙ sym (has_items-push items item); lines = kept-yes place_in items item place_entry old.lines.items new.lines.items place refl pushed so_far.lines },
  )) before

-- a line of too few words, or of too many
pub place_of-short : {A : Type 0} (bytes : A → List ℕ) (number : ℕ) (words : List A) → length words < 3 → place_of number (map bytes words) ≡ Err BadLine
place_of-short bytes number [] short = refl
place_of-short bytes number (a ∷ []) short = refl
place_of-short bytes number (a ∷ b ∷ []) short = refl
place_of-short bytes number (a ∷ b ∷ c ∷ words) short = absurd (omega arith)

pub place_of-long : {A : Type 0} (bytes : A → List ℕ) (number : ℕ) (words : List A) → 7 ≤ length words → place_of number (map bytes words) ≡ Err BadLine
place_of-long bytes number (a ∷ b ∷ c ∷ d ∷ e ∷ f ∷ g ∷ words) long = refl
place_of-long bytes number (a ∷ b ∷ c ∷ d ∷ e ∷ f ∷ []) long = absurd (omega arith)
place_of-long bytes number (a ∷ b ∷ c ∷ d ∷ e ∷ []) long = absurd (omega arith)
place_of-long bytes number (a ∷ b ∷ c ∷ d ∷ []) long = absurd (omega arith)
place_of-long bytes number (a ∷ b ∷ c ∷ []) long = absurd (omega arith)
place_of-long bytes number (a ∷ b ∷ []) long = absurd (omega arith)
place_of-long bytes number (a ∷ []) long = absurd (omega arith)
place_of-long bytes number [] long = absurd (omega arith)

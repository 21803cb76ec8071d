-- The lines of a rows file by their number of words.
use Rattle.std.proofs.Common.{◌≡◌, ℕ, ◌<◌, ◌≤◌, Bool, true, false, List, [], ◌∷◌, length, map, slice_index_or, Result, Err, refl, arith}
use Rattle.book_files.specs.declared.fault.TextKind.{TextKind}
use Rattle.book_files.specs.declared.fault.TextKind.TheVariants.{BadLine}
use Rattle.book_files.specs.Entries.{SubrowEntry}
use Rattle.book_files.specs.Forms.Rows.{once_by, is_subrow, subrow_at, subrow_of}

module _ {X : Type 0} (bytes : X → List ℕ) where
  pub once_by-three : {A : Type 0} (P : Result A TextKind → Type 0) (value : List ℕ → Result A TextKind) (stood : Bool) (words : List X) (d : X) → 3 ≤ length words → length words < 4
      → stood ≡ false → P (value (bytes (slice_index_or words 2 d))) → P (once_by value stood (map bytes words))
  once_by-three P value stood [] d least most none is = absurd (omega arith)
  once_by-three P value stood (a ∷ []) d least most none is = absurd (omega arith)
  once_by-three P value stood (a ∷ b ∷ []) d least most none is = absurd (omega arith)
  once_by-three P value stood (a ∷ b ∷ c ∷ []) d least most none is = rw none is
  once_by-three P value stood (a ∷ b ∷ c ∷ e ∷ words) d least most none is = absurd (omega arith)

  pub once_by-short : {A : Type 0} (value : List ℕ → Result A TextKind) (stood : Bool) (words : List X) → length words < 3 → once_by value stood (map bytes words) ≡ Err BadLine
  once_by-short value stood [] short = refl
  once_by-short value stood (a ∷ []) short = refl
  once_by-short value stood (a ∷ b ∷ []) short = refl
  once_by-short value stood (a ∷ b ∷ c ∷ words) short = absurd (omega arith)

  pub once_by-long : {A : Type 0} (value : List ℕ → Result A TextKind) (stood : Bool) (words : List X) → 4 ≤ length words → once_by value stood (map bytes words) ≡ Err BadLine
  once_by-long value stood [] long = absurd (omega arith)
  once_by-long value stood (a ∷ []) long = absurd (omega arith)
  once_by-long value stood (a ∷ b ∷ []) long = absurd (omega arith)
  once_by-long value stood (a ∷ b ∷ c ∷ []) long = absurd (omega arith)
  once_by-long value stood (a ∷ b ∷ c ∷ d ∷ words) long = refl

  pub subrow_of-six : (P : Result SubrowEntry TextKind → Type 0) (words : List X) (d : X) → 6 ≤ length words → length words < 7
      → is_subrow (bytes (slice_index_or words 3 d)) (bytes (slice_index_or words 4 d)) ≡ true
      → P (subrow_at (bytes (slice_index_or words 2 d)) (bytes (slice_index_or words 5 d))) → P (subrow_of (map bytes words))
  subrow_of-six P [] d least most sites is = absurd (omega arith)
  subrow_of-six P (a ∷ []) d least most sites is = absurd (omega arith)
  subrow_of-six P (a ∷ b ∷ []) d least most sites is = absurd (omega arith)
  subrow_of-six P (a ∷ b ∷ c ∷ []) d least most sites is = absurd (omega arith)
  subrow_of-six P (a ∷ b ∷ c ∷ e ∷ []) d least most sites is = absurd (omega arith)
  subrow_of-six P (a ∷ b ∷ c ∷ e ∷ f ∷ []) d least most sites is = absurd (omega arith)
  subrow_of-six P (a ∷ b ∷ c ∷ e ∷ f ∷ g ∷ []) d least most sites is = rw sites is
  subrow_of-six P (a ∷ b ∷ c ∷ e ∷ f ∷ g ∷ h ∷ words) d least most sites is = absurd (omega arith)

  pub subrow_of-short : (words : List X) → length words < 6 → subrow_of (map bytes words) ≡ Err BadLine
  subrow_of-short [] short = refl
  subrow_of-short (a ∷ []) short = refl
  subrow_of-short (a ∷ b ∷ []) short = refl
  subrow_of-short (a ∷ b ∷ c ∷ []) short = refl
  subrow_of-short (a ∷ b ∷ c ∷ e ∷ []) short = refl
  subrow_of-short (a ∷ b ∷ c ∷ e ∷ f ∷ []) short = refl
  subrow_of-short (a ∷ b ∷ c ∷ e ∷ f ∷ g ∷ words) short = absurd (omega arith)

  pub subrow_of-long : (words : List X) → 7 ≤ length words → subrow_of (map bytes words) ≡ Err BadLine
  subrow_of-long [] long = absurd (omega arith)
  subrow_of-long (a ∷ []) long = absurd (omega arith)
  subrow_of-long (a ∷ b ∷ []) long = absurd (omega arith)
  subrow_of-long (a ∷ b ∷ c ∷ []) long = absurd (omega arith)
  subrow_of-long (a ∷ b ∷ c ∷ e ∷ []) long = absurd (omega arith)
  subrow_of-long (a ∷ b ∷ c ∷ e ∷ f ∷ []) long = absurd (omega arith)
  subrow_of-long (a ∷ b ∷ c ∷ e ∷ f ∷ g ∷ []) long = absurd (omega arith)
  subrow_of-long (a ∷ b ∷ c ∷ e ∷ f ∷ g ∷ h ∷ words) long = refl

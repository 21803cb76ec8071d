-- Parts of the rows, as the steps on them make them.
use Rattle.std.specs.Prelude.{◌≡◌, ◌≢◌, ◌⊎◌, ℕ, ◌<◌, List, length, map}
use Rattle.book_files.specs.Entries.{RowEntry}
use Rattle.book_design.specs.declared.strips.Strip.{Strip as Kept}
use Rattle.book_design.specs.declared.rows.RowShape.{RowShape}
use Rattle.book_design.specs.Records.{Records, strip_of}
use Rattle.book_design.specs.Joined.{HasSite}
use Rattle.book_design.specs.Faults.{IsMixedRow}
use Rattle.book_design.specs.Forms.Parts.{outline, kept_at, IsShape}

-- the subrows of a row by its number
abbrev pub row_outlines : ℕ → RowEntry → List Kept
row_outlines r row = map (λ subrow. outline (strip_of r row subrow)) row.subrows

-- one of these subrows has a site
abbrev pub HaveSite : List Kept → Type 0
HaveSite kept = (s : ℕ) × (s < length kept) × (0 < (kept_at kept s).sites)

abbrev pub HaveNoSite : List Kept → Type 0
HaveNoSite kept = (s : ℕ) → s < length kept → (kept_at kept s).sites ≡ 0

-- some subrow has a site, and all rows have this shape
pub record IsEven (records : Records) (shape : RowShape) : Type 0 where
  pub some : (s : ℕ) × HasSite records s
  pub even : (r : ℕ) → IsMixedRow records r → ⊥
  pub first : IsShape records shape

-- the row is so high, and its sites are so far apart
pub record HasShape (row : RowEntry) (shape : RowShape) : Type 0 where
  pub height : row.height ≡ shape.height
  pub pitch : row.pitch ≡ shape.pitch

abbrev pub HasOtherShape : RowEntry → RowShape → Type 0
HasOtherShape row shape = (row.height ≢ shape.height) ⊎ (row.pitch ≢ shape.pitch)

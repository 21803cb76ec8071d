-- What lies past its limit: the sites of a subrow, the weight of a net, the ends of a row.
use Rattle.std.specs.Prelude.{◌≡◌, ℕ, ◌<◌, List, length, Option, None, ◌+ℤ◌, ◌<ℤ◌, slice_index_or}
use Rattle.book_files.specs.Entries.{RowEntry}
use Rattle.book_design.specs.declared.rules.TheConstants.{MOST_SITES, ROWS_END}
use Rattle.book_design.specs.declared.strips.Strip.{Strip as Kept}
use Rattle.book_design.specs.Records.{Records, row_at}
use Rattle.book_design.specs.Forms.Parts.{kept_at}

-- a subrow with too many sites
abbrev pub IsCrowded : List Kept → ℕ → Type 0
IsCrowded kept s = (s < length kept) × (MOST_SITES < (kept_at kept s).sites)

-- past the end there is no weight
abbrev pub weight_in : List (Option ℕ) → ℕ → Option ℕ
weight_in weights n = slice_index_or weights n None

-- a net without a whole weight
abbrev pub HasNoWeight : List (Option ℕ) → ℕ → Type 0
HasNoWeight weights n = (n < length weights) × (weight_in weights n ≡ None)

-- the upper edge of the row lies past the end
abbrev pub EndsHigh : RowEntry → Type 0
EndsHigh row = ROWS_END <ℤ (row.y +ℤ row.height)

abbrev pub IsHigh : Records → ℕ → Type 0
IsHigh records r = (r < length records.rows) × EndsHigh (row_at records r)

-- the right end of the subrow lies past the end
abbrev pub IsWide : List Kept → ℕ → Type 0
IsWide kept s = (s < length kept) × (ROWS_END <ℤ (kept_at kept s).right)

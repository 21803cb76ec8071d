-- The rows file: a header, the number of rows, and row blocks with subrows.
use Rattle.std.specs.Prelude.{ℕ, Bool, true, false, ◌&&◌, List, [], ◌∷◌, ◌++◌, length, map, codes, ◌==◌, is_some, ℤ, pos, int_lt, Option, Some, None, Result, Ok, Err, if◌then◌else◌, filter_map}
use Rattle.book_text.specs.Lines.{NumberedLine}
use Rattle.book_files.specs.declared.fault.TextKind.{TextKind}
use Rattle.book_files.specs.declared.fault.TextKind.TheVariants.{BadHeader, BadLine, BadNumber, CountMismatch}
use Rattle.book_files.specs.declared.row_lines.PartKey.{PartKey}
use Rattle.book_files.specs.declared.row_lines.PartKey.TheVariants.{Coordinate, Height, SiteWidth, SiteSpacing, SiteOrient, SiteSymmetry, Subrow}
use Rattle.book_files.specs.Forms.Form.{Form}
use Rattle.book_files.specs.Entries.{SubrowEntry, RowEntry}
use Rattle.book_files.specs.Words.{latest, is_header, is_keyed, is_keyword, is_colon_word}
use Rattle.book_files.specs.Forms.Words.{◌>>=◌, count_of, whole_of, number_of}
use Rattle.book_files.specs.Rows.{RowPart, RowItem, total_in, coordinate_in, height_in, width_in, spacing_in, orient_in, symmetry_in, subrow_in, has, blocks_in, open_block, is_row_start, is_row_end, entry_of_row}
use Rattle.book_files.specs.Rows.RowPart.{coordinate, height, site_width, site_spacing, site_orient, site_symmetry, subrow, ended}
use Rattle.book_files.specs.Rows.RowItem.{header, total, begun, part}

-- what a line within a block is by its keyword
abbrev pub key_of : List (List ℕ) → Option PartKey
key_of words =
    if is_keyed (codes "coordinate") words then Some Coordinate else if is_keyed (codes "height") words then Some Height
    else if is_keyed (codes "sitewidth") words then Some SiteWidth else if is_keyed (codes "sitespacing") words then Some SiteSpacing
    else if is_keyed (codes "siteorient") words then Some SiteOrient else if is_keyed (codes "sitesymmetry") words then Some SiteSymmetry
    else if is_keyed (codes "subroworigin") words then Some Subrow else None

-- what a block has so far
pub record BlockStated : Type 0 where
  pub y : Option ℤ
  pub height : Option ℤ
  pub width : Option ℤ
  pub spacing : Option ℤ
  pub oriented : Bool
  pub symmetric : Bool
  pub subrows : List SubrowEntry

abbrev pub nothing_stated : BlockStated
nothing_stated = record { y = None; height = None; width = None; spacing = None; oriented = false; symmetric = false; subrows = [] }

abbrev pub stated_by : List RowPart → BlockStated
stated_by parts = record {
  y = latest coordinate_in parts;
  height = latest height_in parts;
  width = latest width_in parts;
  spacing = latest spacing_in parts;
  oriented = has orient_in parts;
  symmetric = has symmetry_in parts;
  subrows = filter_map subrow_in parts;
}

-- the same with one line more
abbrev pub stated_with : BlockStated → RowPart → BlockStated
stated_with t (coordinate y) = record { y = Some y; height = t.height; width = t.width; spacing = t.spacing; oriented = t.oriented; symmetric = t.symmetric; subrows = t.subrows }
stated_with t (height h) = record { y = t.y; height = Some h; width = t.width; spacing = t.spacing; oriented = t.oriented; symmetric = t.symmetric; subrows = t.subrows }
stated_with t (site_width w) = record { y = t.y; height = t.height; width = Some w; spacing = t.spacing; oriented = t.oriented; symmetric = t.symmetric; subrows = t.subrows }
stated_with t (site_spacing s) = record { y = t.y; height = t.height; width = t.width; spacing = Some s; oriented = t.oriented; symmetric = t.symmetric; subrows = t.subrows }
stated_with t site_orient = record { y = t.y; height = t.height; width = t.width; spacing = t.spacing; oriented = true; symmetric = t.symmetric; subrows = t.subrows }
stated_with t site_symmetry = record { y = t.y; height = t.height; width = t.width; spacing = t.spacing; oriented = t.oriented; symmetric = true; subrows = t.subrows }
stated_with t (subrow entry) = record { y = t.y; height = t.height; width = t.width; spacing = t.spacing; oriented = t.oriented; symmetric = t.symmetric; subrows = t.subrows ++ entry ∷ [] }
stated_with t ended = t

-- a number above 0
abbrev pub above_zero : ℤ → Result ℤ TextKind
above_zero value = if int_lt (pos 0) value then Ok value else Err BadNumber

abbrev pub positive_of : List ℕ → Result ℤ TextKind
positive_of word = number_of word >>= above_zero

-- the value of the third of three words, a keyword and a colon before it, which may stand once
abbrev pub once_by : {A : Type 0} → (List ℕ → Result A TextKind) → Bool → List (List ℕ) → Result A TextKind
once_by value stood (key ∷ colon ∷ word ∷ []) = if stood then Err BadLine else value word
once_by value stood [] = Err BadLine
once_by value stood (key ∷ []) = Err BadLine
once_by value stood (key ∷ colon ∷ []) = Err BadLine
once_by value stood (key ∷ colon ∷ word ∷ more ∷ rest) = Err BadLine

-- `NumSites` and a colon
abbrev pub is_subrow : List ℕ → List ℕ → Bool
is_subrow many colon = is_keyword (codes "numsites") many && is_colon_word colon

-- a subrow with its numbers, tested from left to right
abbrev pub subrow_at : List ℕ → List ℕ → Result SubrowEntry TextKind
subrow_at x n = number_of x >>= λ at. whole_of n >>= λ sites. Ok (record { x = at; sites = sites })

-- `SubrowOrigin : x NumSites : n`
abbrev pub subrow_of : List (List ℕ) → Result SubrowEntry TextKind
subrow_of (key ∷ colon ∷ x ∷ many ∷ again ∷ n ∷ []) = if is_subrow many again then subrow_at x n else Err BadLine
subrow_of [] = Err BadLine
subrow_of (key ∷ []) = Err BadLine
subrow_of (key ∷ colon ∷ []) = Err BadLine
subrow_of (key ∷ colon ∷ x ∷ []) = Err BadLine
subrow_of (key ∷ colon ∷ x ∷ many ∷ []) = Err BadLine
subrow_of (key ∷ colon ∷ x ∷ many ∷ again ∷ []) = Err BadLine
subrow_of (key ∷ colon ∷ x ∷ many ∷ again ∷ n ∷ more ∷ rest) = Err BadLine

-- what a line within a block is, up to the block's end
abbrev pub by_key : BlockStated → Option PartKey → List (List ℕ) → Result RowPart TextKind
by_key t (Some Coordinate) words = once_by number_of (is_some t.y) words >>= λ y. Ok (coordinate y)
by_key t (Some Height) words = once_by positive_of (is_some t.height) words >>= λ h. Ok (height h)
by_key t (Some SiteWidth) words = once_by positive_of (is_some t.width) words >>= λ w. Ok (site_width w)
by_key t (Some SiteSpacing) words = once_by positive_of (is_some t.spacing) words >>= λ s. Ok (site_spacing s)
by_key t (Some SiteOrient) words = if t.oriented then Err BadLine else Ok site_orient
by_key t (Some SiteSymmetry) words = if t.symmetric then Err BadLine else Ok site_symmetry
by_key t (Some Subrow) words = subrow_of words >>= λ entry. Ok (subrow entry)
by_key t None words = Err BadLine

abbrev pub inner_of : BlockStated → List (List ℕ) → Result RowPart TextKind
inner_of t words = by_key t (key_of words) words

-- the spacing, and the width where there is no spacing
abbrev pub pitch_in : Option ℤ → Option ℤ → Option ℤ
pitch_in (Some spacing) width = Some spacing
pitch_in None width = width

-- the row of a block at its end, where it has what a row needs
abbrev pub closed : Option ℤ → Option ℤ → Option ℤ → List SubrowEntry → Result RowEntry TextKind
closed (Some y) (Some h) (Some p) subrows = Ok (record { y = y; height = h; pitch = p; subrows = subrows })
closed None h p subrows = Err BadLine
closed (Some y) None p subrows = Err BadLine
closed (Some y) (Some h) None subrows = Err BadLine

abbrev pub row_of : BlockStated → Result RowEntry TextKind
row_of t = closed t.y t.height (pitch_in t.spacing t.width) t.subrows

-- what a line within a block is, behind the block's lines before it
abbrev pub part_of : BlockStated → List (List ℕ) → Result RowPart TextKind
part_of t words = if is_row_end words then (row_of t >>= λ row. Ok ended) else inner_of t words

-- what a line between blocks is, where the number of rows was stated before or not
abbrev pub outside_of : Bool → List (List ℕ) → Result RowItem TextKind
outside_of stood words =
    if is_keyed (codes "numrows") words then (count_of stood words >>= λ n. Ok (total n))
    else if is_row_start words then Ok begun else Err BadLine

abbrev pub within_or_outside : Option (List RowPart) → Bool → List (List ℕ) → Result RowItem TextKind
within_or_outside (Some parts) stood words = part_of (stated_by parts) words >>= λ p. Ok (part p)
within_or_outside None stood words = outside_of stood words

abbrev pub row_meaning : List RowItem → NumberedLine → Result RowItem TextKind
row_meaning [] line = if is_header (codes "scl") line.words then Ok header else Err BadHeader
row_meaning (item ∷ items) line = within_or_outside (open_block (item ∷ items)) (is_some (latest total_in (item ∷ items))) line.words

abbrev pub rows_stated : Option ℕ → List RowEntry → Result (List RowEntry) TextKind
rows_stated None rows = Err BadLine
rows_stated (Some n) rows = if n == length rows then Ok rows else Err (CountMismatch n (length rows))

-- a block that isn't ended, then the missing number of rows, then another number
abbrev pub row_ending : List RowItem → Result (List RowEntry) TextKind
row_ending [] = Err BadHeader
row_ending (item ∷ items) = if is_some (open_block (item ∷ items)) then Err BadLine
    else rows_stated (latest total_in (item ∷ items)) (map entry_of_row (blocks_in (item ∷ items)))

abbrev pub row_form : Form RowItem (List RowEntry)
row_form = record { meaning = row_meaning; ending = row_ending }

-- The rules of the rows file: a header, the number of rows, and row blocks with subrows.
use Rattle.std.specs.Prelude.{◌≡◌, ◌≢◌, ◌⊎◌, ℕ, List, [], length, map, codes, IsTrue, Option, Some, None}
use Rattle.book_text.specs.Lines.{NumberedLine}
use Rattle.book_files.specs.declared.fault.TextKind.{TextKind}
use Rattle.book_files.specs.declared.fault.TextKind.TheVariants.{BadHeader, BadLine, BadNumber, CountMismatch}
use Rattle.book_files.specs.Grammar.{Grammar}
use Rattle.book_files.specs.Words.{latest, is_keyed, is_keyword, is_colon_word}
use Rattle.book_files.specs.Shapes.{word_at, IsWhole, IsNumber, IsPositive, HasWhole, HasNumber, HasPositive, IsOnceShape, IsHeaderLine, IsShapeFault}
use Rattle.book_files.specs.Entries.{RowEntry}
use Rattle.book_files.specs.Rows.{RowPart, coordinate, height, site_width, site_spacing, site_orient, site_symmetry, subrow, ended, RowItem, header, total, begun, part, total_in, coordinate_in, height_in, width_in, spacing_in, orient_in, symmetry_in, open_block, blocks_in, is_row_start, is_row_end, entry_of_row}

-- `SubrowOrigin : x NumSites : n`
pub record IsSubrowShape (words : List (List ℕ)) : Type 0 where
  pub keyed : IsTrue (is_keyed (codes "subroworigin") words)
  pub six : length words ≡ 6
  pub sites : IsTrue (is_keyword (codes "numsites") (word_at words 3))
  pub colon : IsTrue (is_colon_word (word_at words 4))

-- a keyword and a colon, behind which anything may stand, and no line of the block before it has this keyword
pub record IsOnceKeyed {A : Type 0} (key : List ℕ) (stated : RowPart → Option A) (parts : List RowPart) (words : List (List ℕ)) : Type 0 where
  pub keyed : IsTrue (is_keyed key words)
  pub once : latest stated parts ≡ None

-- a block has at its end what it needs
pub record IsWholeBlock (parts : List RowPart) : Type 0 where
  pub coordinate : latest coordinate_in parts ≢ None
  pub height : latest height_in parts ≢ None
  pub pitch : (latest width_in parts ≢ None) ⊎ (latest spacing_in parts ≢ None)

-- the shape of a line within a block, by what it states
abbrev pub IsPartShape : List RowPart → List (List ℕ) → RowPart → Type 0
IsPartShape parts words (coordinate y) = IsOnceShape (codes "coordinate") coordinate_in parts words
IsPartShape parts words (height h) = IsOnceShape (codes "height") height_in parts words
IsPartShape parts words (site_width w) = IsOnceShape (codes "sitewidth") width_in parts words
IsPartShape parts words (site_spacing s) = IsOnceShape (codes "sitespacing") spacing_in parts words
IsPartShape parts words site_orient = IsOnceKeyed (codes "siteorient") orient_in parts words
IsPartShape parts words site_symmetry = IsOnceKeyed (codes "sitesymmetry") symmetry_in parts words
IsPartShape parts words (subrow entry) = IsSubrowShape words
IsPartShape parts words ended = IsTrue (is_row_end words) × IsWholeBlock parts

-- the numbers of such a line
abbrev pub ArePartNumbers : List (List ℕ) → RowPart → Type 0
ArePartNumbers words (coordinate y) = IsNumber (word_at words 2) y
ArePartNumbers words (height h) = IsPositive (word_at words 2) h
ArePartNumbers words (site_width w) = IsPositive (word_at words 2) w
ArePartNumbers words (site_spacing s) = IsPositive (word_at words 2) s
ArePartNumbers words site_orient = Unit {0}
ArePartNumbers words site_symmetry = Unit {0}
ArePartNumbers words (subrow entry) = IsNumber (word_at words 2) entry.x × IsWhole (word_at words 5) entry.sites
ArePartNumbers words ended = Unit {0}

-- a line of a block that isn't ended
pub record IsPartLine (before : List RowItem) (words : List (List ℕ)) (stated : RowPart) : Type 0 where
  pub parts : List RowPart
  pub within : open_block before ≡ Some parts
  pub shape : IsPartShape parts words stated
  pub numbers : ArePartNumbers words stated

abbrev pub IsRowsItem : List RowItem → NumberedLine → RowItem → Type 0
IsRowsItem before line header = IsHeaderLine (codes "scl") before line
IsRowsItem before line (total n) = (before ≢ []) × (open_block before ≡ None) × IsOnceShape (codes "numrows") total_in before line.words × IsWhole (word_at line.words 2) n
IsRowsItem before line begun = (before ≢ []) × (open_block before ≡ None) × IsTrue (is_row_start line.words)
IsRowsItem before line (part stated) = (before ≢ []) × IsPartLine before line.words stated

-- Between blocks the number of rows, once, or the start of a block; within a block one of its lines.
abbrev pub HasRowsShape : List RowItem → List (List ℕ) → Type 0
HasRowsShape before words = ((open_block before ≡ None) × (IsOnceShape (codes "numrows") total_in before words ⊎ IsTrue (is_row_start words)))
    ⊎ ((parts : List RowPart) × (stated : RowPart) × (open_block before ≡ Some parts) × IsPartShape parts words stated)

-- each word in a number's place is a number in its range
pub record HasRowsNumbers (words : List (List ℕ)) : Type 0 where
  pub count : IsTrue (is_keyed (codes "numrows") words) → HasWhole (word_at words 2)
  pub coordinate : IsTrue (is_keyed (codes "coordinate") words) → HasNumber (word_at words 2)
  pub height : IsTrue (is_keyed (codes "height") words) → HasPositive (word_at words 2)
  pub width : IsTrue (is_keyed (codes "sitewidth") words) → HasPositive (word_at words 2)
  pub spacing : IsTrue (is_keyed (codes "sitespacing") words) → HasPositive (word_at words 2)
  pub origin : IsTrue (is_keyed (codes "subroworigin") words) → HasNumber (word_at words 2)
  pub sites : IsTrue (is_keyed (codes "subroworigin") words) → HasWhole (word_at words 5)

-- the rows are the blocks in order, the last of them is ended, and their number is stated
pub record IsRowsFile (items : List RowItem) (rows : List RowEntry) : Type 0 where
  pub blocks : rows ≡ map entry_of_row (blocks_in items)
  pub ended : open_block items ≡ None
  pub count : latest total_in items ≡ Some (length rows)

-- another number of rows than stands there
pub record IsOtherRows (items : List RowItem) (stated found : ℕ) : Type 0 where
  pub ended : open_block items ≡ None
  pub count : latest total_in items ≡ Some stated
  pub rows : found ≡ length (blocks_in items)
  pub differ : stated ≢ found

-- No line at all; then a block that isn't ended; then no number of rows; then another number.
abbrev pub IsRowsEndFault : List RowItem → TextKind → Type 0
IsRowsEndFault items BadHeader = items ≡ []
IsRowsEndFault items BadLine = (items ≢ []) × ((open_block items ≢ None) ⊎ (latest total_in items ≡ None))
IsRowsEndFault items BadNumber = ⊥
IsRowsEndFault items (CountMismatch stated found) = IsOtherRows items stated found

abbrev pub rows_grammar : Grammar RowItem (List RowEntry)
rows_grammar = record {
  IsItem = IsRowsItem;
  IsLineFault = IsShapeFault (codes "scl") HasRowsShape HasRowsNumbers;
  IsFile = IsRowsFile;
  IsEndFault = IsRowsEndFault;
}

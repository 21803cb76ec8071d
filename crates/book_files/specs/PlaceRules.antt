-- The rules of the placement file: a header, and a line per placed node.
use Rattle.std.specs.Prelude.{◌≡◌, ◌≢◌, ℕ, ◌≤◌, Bool, true, false, List, [], ◌∷◌, drop, length, codes, filter_map, IsTrue, Some}
use Rattle.book_text.specs.Lines.{NumberedLine}
use Rattle.book_files.specs.declared.orient.Orient.{Orient}
use Rattle.book_files.specs.declared.orient.Orient.TheVariants.{N}
use Rattle.book_files.specs.Grammar.{Grammar}
use Rattle.book_files.specs.Words.{is_colon_word}
use Rattle.book_files.specs.Shapes.{word_at, IsNumber, HasNumber, IsHeaderLine, IsShapeFault, IsEmptyFault}
use Rattle.book_files.specs.Entries.{PlaceEntry}
use Rattle.book_files.specs.Places.{PlaceItem, header, placed, place_in, orient_of, place_mark}

-- whether a node is fixed, and then whether it allows overlap, where its line has no mark and where it has this one
abbrev pub IsUnmarked : Bool → Bool → Type 0
IsUnmarked fixed overlap = (fixed ≡ false) × (overlap ≡ false)

abbrev pub IsMarked : List ℕ → Bool → Bool → Type 0
IsMarked mark fixed overlap = (fixed ≡ true) × (place_mark mark ≡ Some overlap)

-- What stands behind `name x y`: nothing, a mark, `: ORIENT`, or `: ORIENT` and a mark. A mark is `/FIXED` or, where the node allows
-- overlap, `/FIXED_NI`.
abbrev pub IsPlaceEnd : List (List ℕ) → Orient → Bool → Bool → Type 0
IsPlaceEnd [] orient fixed overlap = (orient ≡ N) × IsUnmarked fixed overlap
IsPlaceEnd (mark ∷ []) orient fixed overlap = (orient ≡ N) × IsMarked mark fixed overlap
IsPlaceEnd (colon ∷ way ∷ []) orient fixed overlap = IsTrue (is_colon_word colon) × (orient_of way ≡ Some orient) × IsUnmarked fixed overlap
IsPlaceEnd (colon ∷ way ∷ mark ∷ []) orient fixed overlap = IsTrue (is_colon_word colon) × (orient_of way ≡ Some orient) × IsMarked mark fixed overlap
IsPlaceEnd (colon ∷ way ∷ mark ∷ more ∷ rest) orient fixed overlap = ⊥

abbrev pub IsPlaceShape : List (List ℕ) → Orient → Bool → Bool → Type 0
IsPlaceShape words orient fixed overlap = (3 ≤ length words) × IsPlaceEnd (drop 3 words) orient fixed overlap

abbrev pub HasPlacesShape : List PlaceItem → List (List ℕ) → Type 0
HasPlacesShape before words = (orient : Orient) × (fixed : Bool) × (overlap : Bool) × IsPlaceShape words orient fixed overlap

abbrev pub HasPlacesNumbers : List (List ℕ) → Type 0
HasPlacesNumbers words = HasNumber (word_at words 1) × HasNumber (word_at words 2)

-- the line is the place's
pub record IsPlaceLine (line : NumberedLine) (entry : PlaceEntry) : Type 0 where
  pub shape : IsPlaceShape line.words entry.orient entry.fixed entry.overlap
  pub number : entry.line ≡ line.number
  pub name : entry.name ≡ word_at line.words 0
  pub x : IsNumber (word_at line.words 1) entry.x
  pub y : IsNumber (word_at line.words 2) entry.y

abbrev pub IsPlacesItem : List PlaceItem → NumberedLine → PlaceItem → Type 0
IsPlacesItem before line header = IsHeaderLine (codes "pl") before line
IsPlacesItem before line (placed entry) = (before ≢ []) × IsPlaceLine line entry

-- the places are the place lines in order
abbrev pub IsPlacesFile : List PlaceItem → List PlaceEntry → Type 0
IsPlacesFile items places = (items ≢ []) × (places ≡ filter_map place_in items)

abbrev pub places_grammar : Grammar PlaceItem (List PlaceEntry)
places_grammar = record {
  IsItem = IsPlacesItem;
  IsLineFault = IsShapeFault (codes "pl") HasPlacesShape HasPlacesNumbers;
  IsFile = IsPlacesFile;
  IsEndFault = IsEmptyFault;
}

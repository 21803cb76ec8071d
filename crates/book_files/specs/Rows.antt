-- The rows file: a header, the number of rows, and row blocks with subrows.
use Rattle.std.specs.Prelude.{ℕ, Bool, false, ◌&&◌, List, [], ◌∷◌, codes, is_some, ℤ, pos, Option, Some, None, if◌then◌else◌, filter_map}
use Rattle.book_files.specs.Groups.{Group, groups}
use Rattle.book_files.specs.Entries.{SubrowEntry, RowEntry}
use Rattle.book_files.specs.Words.{latest, last_of, is_keyword}

-- a line of a row block
pub data RowPart : Type 0 where
  coordinate : ℤ → RowPart
  height : ℤ → RowPart
  site_width : ℤ → RowPart
  site_spacing : ℤ → RowPart
  site_orient : RowPart
  site_symmetry : RowPart
  subrow : SubrowEntry → RowPart
  ended : RowPart

-- what a line of a rows file is
pub data RowItem : Type 0 where
  header : RowItem
  total : ℕ → RowItem
  begun : RowItem
  part : RowPart → RowItem

abbrev pub total_in : RowItem → Option ℕ
total_in header = None
total_in (total n) = Some n
total_in begun = None
total_in (part p) = None

abbrev pub begun_in : RowItem → Option (Unit {0})
begun_in header = None
begun_in (total n) = None
begun_in begun = Some tt
begun_in (part p) = None

abbrev pub part_in : RowItem → Option RowPart
part_in header = None
part_in (total n) = None
part_in begun = None
part_in (part p) = Some p

abbrev pub coordinate_in : RowPart → Option ℤ
coordinate_in (coordinate y) = Some y
coordinate_in (height h) = None
coordinate_in (site_width w) = None
coordinate_in (site_spacing s) = None
coordinate_in site_orient = None
coordinate_in site_symmetry = None
coordinate_in (subrow entry) = None
coordinate_in ended = None

abbrev pub height_in : RowPart → Option ℤ
height_in (height h) = Some h
height_in (coordinate y) = None
height_in (site_width w) = None
height_in (site_spacing s) = None
height_in site_orient = None
height_in site_symmetry = None
height_in (subrow entry) = None
height_in ended = None

abbrev pub width_in : RowPart → Option ℤ
width_in (site_width w) = Some w
width_in (coordinate y) = None
width_in (height h) = None
width_in (site_spacing s) = None
width_in site_orient = None
width_in site_symmetry = None
width_in (subrow entry) = None
width_in ended = None

abbrev pub spacing_in : RowPart → Option ℤ
spacing_in (site_spacing s) = Some s
spacing_in (coordinate y) = None
spacing_in (height h) = None
spacing_in (site_width w) = None
spacing_in site_orient = None
spacing_in site_symmetry = None
spacing_in (subrow entry) = None
spacing_in ended = None

abbrev pub orient_in : RowPart → Option (Unit {0})
orient_in site_orient = Some tt
orient_in (coordinate y) = None
orient_in (height h) = None
orient_in (site_width w) = None
orient_in (site_spacing s) = None
orient_in site_symmetry = None
orient_in (subrow entry) = None
orient_in ended = None

abbrev pub symmetry_in : RowPart → Option (Unit {0})
symmetry_in site_symmetry = Some tt
symmetry_in (coordinate y) = None
symmetry_in (height h) = None
symmetry_in (site_width w) = None
symmetry_in (site_spacing s) = None
symmetry_in site_orient = None
symmetry_in (subrow entry) = None
symmetry_in ended = None

abbrev pub subrow_in : RowPart → Option SubrowEntry
subrow_in (subrow entry) = Some entry
subrow_in (coordinate y) = None
subrow_in (height h) = None
subrow_in (site_width w) = None
subrow_in (site_spacing s) = None
subrow_in site_orient = None
subrow_in site_symmetry = None
subrow_in ended = None

abbrev pub end_in : RowPart → Option (Unit {0})
end_in ended = Some tt
end_in (coordinate y) = None
end_in (height h) = None
end_in (site_width w) = None
end_in (site_spacing s) = None
end_in site_orient = None
end_in site_symmetry = None
end_in (subrow entry) = None

-- whether a block has a part of a kind
abbrev pub has : {A : Type 0} → (RowPart → Option A) → List RowPart → Bool
has kind parts = is_some (latest kind parts)

-- the blocks so far, each with its lines
abbrev pub blocks_in : List RowItem → List (Group (Unit {0}) RowPart)
blocks_in items = groups begun_in part_in items

-- the lines of the block, where it isn't ended
abbrev pub unless_ended : List RowPart → Option (List RowPart)
unless_ended parts = if has end_in parts then None else Some parts

abbrev pub open_in : Option (Group (Unit {0}) RowPart) → Option (List RowPart)
open_in None = None
open_in (Some block) = unless_ended block.parts

-- the lines so far of the block that a line would belong to
abbrev pub open_block : List RowItem → Option (List RowPart)
open_block items = open_in (last_of (blocks_in items))

-- two keywords alone
abbrev pub is_row_start : List (List ℕ) → Bool
is_row_start (key ∷ way ∷ []) = is_keyword (codes "corerow") key && is_keyword (codes "horizontal") way
is_row_start [] = false
is_row_start (key ∷ []) = false
is_row_start (key ∷ way ∷ more ∷ rest) = false

-- one keyword alone
abbrev pub is_row_end : List (List ℕ) → Bool
is_row_end (key ∷ []) = is_keyword (codes "end") key
is_row_end [] = false
is_row_end (key ∷ more ∷ rest) = false

abbrev pub or_zero : Option ℤ → ℤ
or_zero None = pos 0
or_zero (Some value) = value

-- the spacing, and the width where there is no spacing
abbrev pub pitch_of : Option ℤ → Option ℤ → ℤ
pitch_of (Some spacing) width = spacing
pitch_of None width = or_zero width

abbrev pub entry_of_row : Group (Unit {0}) RowPart → RowEntry
entry_of_row block = record {
  y = or_zero (latest coordinate_in block.parts);
  height = or_zero (latest height_in block.parts);
  pitch = pitch_of (latest spacing_in block.parts) (latest width_in block.parts);
  subrows = filter_map subrow_in block.parts;
}

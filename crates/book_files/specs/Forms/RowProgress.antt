-- What the reader of a rows file keeps of the lines before.
use Rattle.std.specs.Prelude.{◌≡◌, ℕ, false, List, [], ◌∷◌, ◌++◌, length, map, ◌==◌, is_some, ℤ, pos, ◌<ℤ◌, Option, Some, None, option_map, Result, Ok, Err, if◌then◌else◌}
use Rattle.std.specs.List.{AllByRecursion}
use Rattle.std.specs.Option.{IfSome}
use Rattle.book_files.specs.declared.fault.TextKind.{TextKind}
use Rattle.book_files.specs.declared.fault.TextKind.TheVariants.{BadHeader, BadLine, CountMismatch}
use Rattle.book_files.specs.declared.fault.LineError.{LineError}
use Rattle.book_files.specs.declared.fault.LineError.TheVariants.{Kind, Memory}
use Rattle.book_files.specs.declared.records.RowBlock.{RowBlock}
use Rattle.book_files.specs.declared.row_block.BlockSoFar.{BlockSoFar}
use Rattle.book_files.specs.declared.row_block.Part.{Part}
use Rattle.book_files.specs.declared.row_block.Part.TheVariants.{Coordinate, Height, SiteWidth, SiteSpacing, SiteOrient, SiteSymmetry, Subrow}
use Rattle.book_files.specs.declared.rows.RowsSoFar.{RowsSoFar}
use Rattle.book_files.specs.Words.{latest, last_of}
use Rattle.book_files.specs.Groups.{Group}
use Rattle.book_files.specs.Entries.{subrow_entry}
use Rattle.book_files.specs.Blocks.{row_entries}
use Rattle.book_files.specs.Ranges.{IsInRange, IsSubrowInRange, IsRowInRange}
use Rattle.book_files.specs.Forms.SoFar.{has_items}
use Rattle.book_files.specs.Rows.{RowPart, coordinate, height, site_width, site_spacing, site_orient, site_symmetry, subrow, ended, RowItem, total_in, end_in, has, open_in, blocks_in, entry_of_row}
use Rattle.book_files.specs.Forms.Rows.{BlockStated, stated_by, stated_with, inner_of}

abbrev pub part_view : Part → RowPart
part_view (Coordinate y) = coordinate y.0
part_view (Height h) = height h.0
part_view (SiteWidth w) = site_width w.0
part_view (SiteSpacing s) = site_spacing s.0
part_view SiteOrient = site_orient
part_view SiteSymmetry = site_symmetry
part_view (Subrow line) = subrow (subrow_entry line)

abbrev pub block_stated : BlockSoFar → BlockStated
block_stated b = record {
  y = option_map (λ n. n.0) b.coordinate;
  height = option_map (λ n. n.0) b.height;
  width = option_map (λ n. n.0) b.width;
  spacing = option_map (λ n. n.0) b.spacing;
  oriented = b.oriented;
  symmetric = b.symmetric;
  subrows = b.subrows;
}

pub record IsPositiveInRange (value : ℤ) : Type 0 where
  pub range : IsInRange value
  pub sign : pos 0 <ℤ value

abbrev pub IsPartInRange : RowPart → Type 0
IsPartInRange (coordinate y) = IsInRange y
IsPartInRange (height h) = IsPositiveInRange h
IsPartInRange (site_width w) = IsPositiveInRange w
IsPartInRange (site_spacing s) = IsPositiveInRange s
IsPartInRange site_orient = Unit {0}
IsPartInRange site_symmetry = Unit {0}
IsPartInRange (subrow entry) = IsSubrowInRange entry
IsPartInRange ended = Unit {0}

pub record IsStatedInRange (t : BlockStated) : Type 0 where
  pub y : IfSome t.y IsInRange
  pub height : IfSome t.height IsPositiveInRange
  pub width : IfSome t.width IsPositiveInRange
  pub spacing : IfSome t.spacing IsPositiveInRange
  pub subrows : AllByRecursion IsSubrowInRange t.subrows

-- the block has this line more
pub record HasPart (stated : BlockStated) (words : List (List ℕ)) (block : BlockSoFar) : Type 0 where
  pub part : RowPart
  pub means : inner_of stated words ≡ Ok part
  pub more : block_stated block ≡ stated_with stated part

-- the block has the line more, or the line's first fault is named
abbrev pub IsOneMore : BlockStated → List (List ℕ) → Result BlockSoFar LineError → Type 0
IsOneMore stated words (Ok block) = HasPart stated words block
IsOneMore stated words (Err (Kind kind)) = inner_of stated words ≡ Err kind
IsOneMore stated words (Err Memory) = Unit {0}

-- the last of the groups is the open block, and the others are the rows
pub record HasOpen (block : BlockSoFar) (groups : List (Group (Unit {0}) RowPart)) (rows : List RowBlock) : Type 0 where
  pub before : List (Group (Unit {0}) RowPart)
  pub parts : List RowPart
  pub split : groups ≡ before ++ record { head = tt; parts = parts } ∷ []
  pub ended : row_entries rows ≡ map entry_of_row before
  pub stated : block_stated block ≡ stated_by parts
  pub goes_on : has end_in parts ≡ false
  pub range : IsStatedInRange (stated_by parts)

-- all of the groups are the rows
pub record AreEnded (groups : List (Group (Unit {0}) RowPart)) (rows : List RowBlock) : Type 0 where
  pub last : open_in (last_of groups) ≡ None
  pub ended : row_entries rows ≡ map entry_of_row groups

abbrev pub AreBlocks : Option BlockSoFar → List (Group (Unit {0}) RowPart) → List RowBlock → Type 0
AreBlocks None groups rows = AreEnded groups rows
AreBlocks (Some block) groups rows = HasOpen block groups rows

pub record IsRowsSoFar (items : List RowItem) (so_far : RowsSoFar) : Type 0 where
  pub begun : so_far.begun ≡ has_items items
  pub total : so_far.total ≡ latest total_in items
  pub blocks : AreBlocks so_far.current (blocks_in items) so_far.blocks.items
  pub ranges : AllByRecursion IsRowInRange (row_entries so_far.blocks.items)

abbrev pub total_fault : Option ℕ → List RowBlock → Option TextKind
total_fault None rows = Some BadLine
total_fault (Some n) rows = if n == length rows then None else Some (CountMismatch n (length rows))

-- the fault where no line follows, if there is one
abbrev pub rows_end_fault : RowsSoFar → Option TextKind
rows_end_fault so_far = if so_far.begun then (if is_some so_far.current then Some BadLine else total_fault so_far.total so_far.blocks.items) else Some BadHeader

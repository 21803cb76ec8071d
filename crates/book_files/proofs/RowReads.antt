-- What the rows reader answers, by its form, and how many records there are.
use Rattle.std.proofs.Common.{◌≡◌, ℕ, ◌+◌, ◌≤◌, ◌==◌, Bool, true, false, if◌then◌else◌, List, [], ◌∷◌, length, map, is_some, Option, Some, None, Result, Ok, Err, inr, refl, sym, ap, subst, ◌∙◌, arith}
use Rattle.std.specs.List.{sum_by}
use Rattle.std.proofs.lemmas.List.{length-map}
use Rattle.std.proofs.lemmas.List.Sums.{sum_by-cons}
use Rattle.book_text.specs.Lines.{content_of, end_line}
use Rattle.book_files.specs.declared.fault.TextKind.{TextKind}
use Rattle.book_files.specs.declared.fault.TextKind.TheVariants.{BadHeader, BadLine, CountMismatch}
use Rattle.book_files.specs.declared.records.RowBlock.{RowBlock}
use Rattle.book_files.specs.declared.row_block.BlockSoFar.{BlockSoFar}
use Rattle.book_files.specs.declared.rows.RowsSoFar.{RowsSoFar}
use Rattle.book_files.proofs.FormTexts.{Reads, FirstFault}
use Rattle.book_files.specs.Words.{latest}
use Rattle.book_files.specs.Groups.{Group}
use Rattle.book_files.specs.Entries.{RowEntry}
use Rattle.book_files.specs.Blocks.{row_entry, row_entries}
use Rattle.book_files.specs.Ranges.{subrow_count}
use Rattle.book_files.specs.Rows.{RowPart, RowItem, total_in, begun_in, part_in, subrow_in, open_block, blocks_in, entry_of_row}
use Rattle.book_files.specs.Forms.Rows.{rows_stated, row_ending, row_form}
use Rattle.book_files.specs.Forms.Progress.{StandsFor}
use Rattle.book_files.specs.Forms.SoFar.{has_items}
use Rattle.book_files.specs.Forms.RowProgress.{AreBlocks, IsRowsSoFar, total_fault, rows_end_fault}
use Rattle.book_files.proofs.FewRecords.{length-mean, length-content_of-le, length-filter_map-le}
use Rattle.book_files.proofs.GroupSteps.{groups-few}
use Rattle.book_files.proofs.RowSteps.{open_is}

-- the rows, unless there is a fault
abbrev unless_fault : Option TextKind → List RowEntry → Result (List RowEntry) TextKind
unless_fault None rows = Ok rows
unless_fault (Some kind) rows = Err kind

stated_is : (stated : Option ℕ) (blocks : List RowBlock) → rows_stated stated (row_entries blocks) ≡ unless_fault (total_fault stated blocks) (row_entries blocks)
stated_is None blocks = refl
stated_is (Some n) blocks = ap (λ m. if n == m then Ok (row_entries blocks) else Err (CountMismatch n m)) (length-map blocks row_entry) ∙ equal (n == length blocks) where
  equal : (b : Bool) → ◌≡◌ {A = Result (List RowEntry) TextKind} (if b then Ok (row_entries blocks) else Err (CountMismatch n (length blocks)))
      (unless_fault (if b then None else Some (CountMismatch n (length blocks))) (row_entries blocks))
  equal true = refl
  equal false = refl

-- what all items make, by what the reader has at the end
ending_by : (items : List RowItem) (begun : Bool) (current : Option BlockSoFar) (stated : Option ℕ) (blocks : List RowBlock) → begun ≡ has_items items → stated ≡ latest total_in items → AreBlocks current (blocks_in items) blocks
    → row_ending items ≡ unless_fault (if begun then (if is_some current then Some BadLine else total_fault stated blocks) else Some BadHeader) (row_entries blocks)
ending_by [] begun current stated blocks is_begun is_stated are = rw is_begun refl
ending_by (item ∷ items) begun (Some block) stated blocks is_begun is_stated are = rw is_begun (ap (λ o. if is_some o then Err BadLine else rows_stated (latest total_in (item ∷ items)) (map entry_of_row (blocks_in (item ∷ items)))) (open_is (item ∷ items) block blocks are))
ending_by (item ∷ items) begun None stated blocks is_begun is_stated are = rw is_begun (ap (λ o. if is_some o then Err BadLine else rows_stated (latest total_in (item ∷ items)) (map entry_of_row (blocks_in (item ∷ items)))) are.last
    ∙ (ap (rows_stated (latest total_in (item ∷ items))) (sym are.ended) ∙ (ap (λ t. rows_stated t (row_entries blocks)) (sym is_stated) ∙ stated_is stated blocks)))

ending_is : (items : List RowItem) (so_far : RowsSoFar) → IsRowsSoFar items so_far → row_ending items ≡ unless_fault (rows_end_fault so_far) (row_entries so_far.blocks.items)
ending_is items so_far is = ending_by items so_far.begun so_far.current so_far.total so_far.blocks.items is.begun is.total is.blocks

module _ (text : List ℕ) (so_far : RowsSoFar) (stands : StandsFor row_form IsRowsSoFar so_far (content_of text)) where
  pub rows_read : rows_end_fault so_far ≡ None → Reads row_form text (row_entries so_far.blocks.items)
  rows_read none = record {
    items = stands.items;
    mean = stands.mean;
    make = ending_is stands.items so_far stands.so_far ∙ ap (λ fault. unless_fault fault (row_entries so_far.blocks.items)) none;
  }

  pub rows_refused : (kind : TextKind) → rows_end_fault so_far ≡ Some kind → FirstFault row_form text (record { line = end_line text; kind = kind })
  rows_refused kind some = inr (record {
    items = stands.items;
    mean = stands.mean;
    first = ending_is stands.items so_far stands.so_far ∙ ap (λ fault. unless_fault fault (row_entries so_far.blocks.items)) some;
    number = refl;
  })

-- the subrows are among the lines of the blocks
subrows_few : (blocks : List (Group (Unit {0}) RowPart)) → subrow_count (map entry_of_row blocks) ≤ sum_by (λ block. length block.parts) blocks
subrows_few [] = omega arith
subrows_few (block ∷ blocks) = omega (
  arith,
  subrows_few blocks,
  length-filter_map-le subrow_in block.parts,
  sum_by-cons (λ (row : RowEntry). length row.subrows) (entry_of_row block) (map entry_of_row blocks),
  sum_by-cons (λ (b : Group (Unit {0}) RowPart). length b.parts) block blocks,
)

ending_rows : (items : List RowItem) (rows : List RowEntry) → row_ending items ≡ Ok rows → rows ≡ map entry_of_row (blocks_in items)
ending_rows [] rows ends = cc
ending_rows (item ∷ items) rows ends = at (is_some (open_block (item ∷ items))) (latest total_in (item ∷ items)) ends where
  found : List RowEntry
  found = map entry_of_row (blocks_in (item ∷ items))

  equal : (b : Bool) (n : ℕ) → ◌≡◌ {A = Result (List RowEntry) TextKind} (if b then Ok found else Err (CountMismatch n (length found))) (Ok rows) → rows ≡ found
  equal true n e = cc
  equal false n e = cc

  at : (goes_on : Bool) (stated : Option ℕ) → ◌≡◌ {A = Result (List RowEntry) TextKind} (if goes_on then Err BadLine else rows_stated stated found) (Ok rows) → rows ≡ found
  at true stated e = cc
  at false None e = cc
  at false (Some n) e = equal (n == length found) n e

-- the rows and their subrows are no more than the bytes
pub rows_few : (text : List ℕ) (rows : List RowEntry) → Reads row_form text rows → length rows + subrow_count rows ≤ length text
rows_few text rows reads = let is = ending_rows reads.items rows reads.make in let blocks = blocks_in reads.items in
    let few : length (map entry_of_row blocks) + subrow_count (map entry_of_row blocks) ≤ length text =
    omega (arith, subrows_few blocks, groups-few begun_in part_in reads.items, length-map blocks entry_of_row, length-mean row_form [] (content_of text) reads.items reads.mean, length-content_of-le text) in
    subst (λ rs. length rs + subrow_count rs ≤ length text) (sym is) few

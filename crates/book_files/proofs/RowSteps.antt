-- The steps of the rows reader.
use Rattle.std.proofs.Common.{◌≡◌, ℕ, Bool, true, false, List, [], ◌∷◌, ◌++◌, map, is_some, ℤ, Option, Some, None, Result, Ok, Err, codes, if◌then◌else◌, refl, sym, ap, subst, ◌∙◌}
use Rattle.std.specs.Result.{IsErr, IsErrAnd}
use Rattle.std.specs.List.{filter_map}
use Rattle.std.proofs.lemmas.Bool.{cond-true, cond-false}
use Rattle.std.proofs.lemmas.List.{map-append}
use Rattle.book_text.specs.Lines.{NumberedLine}
use Rattle.book_files.specs.declared.fault.TextKind.{TextKind}
use Rattle.book_files.specs.declared.fault.TextKind.TheVariants.{BadHeader}
use Rattle.book_files.specs.declared.fault.LineError.{LineError}
use Rattle.book_files.specs.declared.fault.LineError.TheVariants.{Kind, Memory}
use Rattle.book_files.specs.declared.records.RowBlock.{RowBlock}
use Rattle.book_files.specs.declared.row_block.BlockSoFar.{BlockSoFar}
use Rattle.book_files.specs.declared.rows.RowsSoFar.{RowsSoFar}
use Rattle.book_files.specs.Words.{latest, last_of, is_header, is_keyed}
use Rattle.book_files.specs.Forms.Words.{◌>>=◌, count_of}
use Rattle.book_files.specs.Groups.{Group}
use Rattle.book_files.specs.Entries.{SubrowEntry, RowEntry}
use Rattle.book_files.specs.Blocks.{row_entry, row_entries}
use Rattle.book_files.specs.Ranges.{IsRowInRange}
use Rattle.book_files.specs.Rows.{RowPart, coordinate, height, site_width, site_spacing, site_orient, site_symmetry, subrow, ended, RowItem, header, total, begun, part, total_in, begun_in, part_in, coordinate_in, height_in, width_in, spacing_in, orient_in, symmetry_in, subrow_in, end_in, open_in, open_block, blocks_in, is_row_start, is_row_end, or_zero, pitch_of, entry_of_row}
use Rattle.book_files.specs.Forms.Rows.{BlockStated, nothing_stated, stated_by, stated_with, inner_of, row_of, closed, pitch_in, part_of, outside_of, within_or_outside, row_meaning, row_form}
use Rattle.book_files.specs.Forms.Progress.{StandsFor, Refuses, Keeps}
use Rattle.book_files.specs.Forms.SoFar.{has_items}
use Rattle.book_files.specs.Forms.RowProgress.{block_stated, IsStatedInRange, HasPart, IsOneMore, HasOpen, AreEnded, AreBlocks, IsRowsSoFar}
use Rattle.book_files.proofs.Items.{has_items-push, last_of-push, filter_map-yes, filter_map-no, latest-yes, latest-no}
use Rattle.book_files.proofs.GroupSteps.{groups-begun, groups-part, groups-other}
use Rattle.book_files.proofs.Progresses.{kept, refused}
use Rattle.book_files.proofs.RowRanges.{inner_range, rows_range_more, stated_range_more, row_range}

abbrev Block : Type 0
Block = Group (Unit {0}) RowPart

abbrev block_of : List RowPart → Block
block_of parts = record { head = tt; parts = parts }

same_stated : (y y' h h' w w' s s' : Option ℤ) (o o' m m' : Bool) (subrows subrows' : List SubrowEntry) → y ≡ y' → h ≡ h' → w ≡ w' → s ≡ s' → o ≡ o' → m ≡ m' → subrows ≡ subrows'
    → ◌≡◌ {A = BlockStated} (record { y = y; height = h; width = w; spacing = s; oriented = o; symmetric = m; subrows = subrows })
    (record { y = y'; height = h'; width = w'; spacing = s'; oriented = o'; symmetric = m'; subrows = subrows' })
same_stated y y' h h' w w' s s' o o' m m' subrows subrows' is_y is_h is_w is_s is_o is_m is_subrows = cc

-- what a block has with one line more
stated_more : (parts : List RowPart) (p : RowPart) → stated_by (parts ++ p ∷ []) ≡ stated_with (stated_by parts) p
stated_more parts (coordinate y) = let p = coordinate y in same_stated _ _ _ _ _ _ _ _ _ _ _ _ _ _ (latest-yes coordinate_in parts p y refl) (latest-no height_in parts p refl) (latest-no width_in parts p refl) (latest-no spacing_in parts p refl)
    (ap is_some (latest-no orient_in parts p refl)) (ap is_some (latest-no symmetry_in parts p refl)) (filter_map-no subrow_in parts p refl)
stated_more parts (height h) = let p = height h in same_stated _ _ _ _ _ _ _ _ _ _ _ _ _ _ (latest-no coordinate_in parts p refl) (latest-yes height_in parts p h refl) (latest-no width_in parts p refl) (latest-no spacing_in parts p refl)
    (ap is_some (latest-no orient_in parts p refl)) (ap is_some (latest-no symmetry_in parts p refl)) (filter_map-no subrow_in parts p refl)
stated_more parts (site_width w) = let p = site_width w in same_stated _ _ _ _ _ _ _ _ _ _ _ _ _ _ (latest-no coordinate_in parts p refl) (latest-no height_in parts p refl) (latest-yes width_in parts p w refl) (latest-no spacing_in parts p refl)
    (ap is_some (latest-no orient_in parts p refl)) (ap is_some (latest-no symmetry_in parts p refl)) (filter_map-no subrow_in parts p refl)
stated_more parts (site_spacing s) = let p = site_spacing s in same_stated _ _ _ _ _ _ _ _ _ _ _ _ _ _ (latest-no coordinate_in parts p refl) (latest-no height_in parts p refl) (latest-no width_in parts p refl) (latest-yes spacing_in parts p s refl)
    (ap is_some (latest-no orient_in parts p refl)) (ap is_some (latest-no symmetry_in parts p refl)) (filter_map-no subrow_in parts p refl)
stated_more parts site_orient = let p = site_orient in same_stated _ _ _ _ _ _ _ _ _ _ _ _ _ _ (latest-no coordinate_in parts p refl) (latest-no height_in parts p refl) (latest-no width_in parts p refl) (latest-no spacing_in parts p refl)
    (ap is_some (latest-yes orient_in parts p tt refl)) (ap is_some (latest-no symmetry_in parts p refl)) (filter_map-no subrow_in parts p refl)
stated_more parts site_symmetry = let p = site_symmetry in same_stated _ _ _ _ _ _ _ _ _ _ _ _ _ _ (latest-no coordinate_in parts p refl) (latest-no height_in parts p refl) (latest-no width_in parts p refl) (latest-no spacing_in parts p refl)
    (ap is_some (latest-no orient_in parts p refl)) (ap is_some (latest-yes symmetry_in parts p tt refl)) (filter_map-no subrow_in parts p refl)
stated_more parts (subrow entry) = let p = subrow entry in same_stated _ _ _ _ _ _ _ _ _ _ _ _ _ _ (latest-no coordinate_in parts p refl) (latest-no height_in parts p refl) (latest-no width_in parts p refl) (latest-no spacing_in parts p refl)
    (ap is_some (latest-no orient_in parts p refl)) (ap is_some (latest-no symmetry_in parts p refl)) (filter_map-yes subrow_in parts p entry refl)
stated_more parts ended = let p = ended in same_stated _ _ _ _ _ _ _ _ _ _ _ _ _ _ (latest-no coordinate_in parts p refl) (latest-no height_in parts p refl) (latest-no width_in parts p refl) (latest-no spacing_in parts p refl)
    (ap is_some (latest-no orient_in parts p refl)) (ap is_some (latest-no symmetry_in parts p refl)) (filter_map-no subrow_in parts p refl)

-- the row of a block that has what it needs is the block's entry
closed_is : (y h s w : Option ℤ) (subrows : List SubrowEntry) (row : RowEntry) → closed y h (pitch_in s w) subrows ≡ Ok row
    → row ≡ record { y = or_zero y; height = or_zero h; pitch = pitch_of s w; subrows = subrows }
closed_is None h s w subrows row is = cc
closed_is (Some y) None s w subrows row is = cc
closed_is (Some y) (Some h) None None subrows row is = cc
closed_is (Some y) (Some h) (Some s) w subrows row is = cc
closed_is (Some y) (Some h) None (Some w) subrows row is = cc

row_is : (parts : List RowPart) (row : RowEntry) → row_of (stated_by parts) ≡ Ok row → row ≡ entry_of_row (block_of parts)
row_is parts row is = closed_is (latest coordinate_in parts) (latest height_in parts) (latest spacing_in parts) (latest width_in parts) (filter_map subrow_in parts) row is

-- the end adds nothing to what the row is
entry_at_end : (parts : List RowPart) → entry_of_row (block_of (parts ++ ended ∷ [])) ≡ entry_of_row (block_of parts)
entry_at_end parts = ap entry_of_stated (stated_more parts ended) where
  entry_of_stated : BlockStated → RowEntry
  entry_of_stated t = record { y = or_zero t.y; height = or_zero t.height; pitch = pitch_of t.spacing t.width; subrows = t.subrows }

meaning_first : (items : List RowItem) (line : NumberedLine) → has_items items ≡ false → row_meaning items line ≡ (if is_header (codes "scl") line.words then Ok header else Err BadHeader)
meaning_first [] line none = refl
meaning_first (item ∷ items) line none = cc

meaning_begun : (items : List RowItem) (line : NumberedLine) → has_items items ≡ true → row_meaning items line ≡ within_or_outside (open_block items) (is_some (latest total_in items)) line.words
meaning_begun [] line some = cc
meaning_begun (item ∷ items) line some = refl

-- the open block's lines
pub open_is : (items : List RowItem) (block : BlockSoFar) (rows : List RowBlock) (has_open : HasOpen block (blocks_in items) rows) → open_block items ≡ Some has_open.parts
open_is items block rows has_open = ap (λ groups. open_in (last_of groups)) has_open.split ∙ (ap open_in (last_of-push has_open.before (block_of has_open.parts)) ∙ cond-false _ _ _ has_open.goes_on)

module _ (line : NumberedLine) (old : RowsSoFar) where
  -- between blocks
  meaning_outside : (items : List RowItem) → old.begun ≡ true → old.current ≡ None → IsRowsSoFar items old → row_meaning items line ≡ outside_of (is_some old.total) line.words
  meaning_outside items some none so_far = let blocks = subst (λ o. AreBlocks o (blocks_in items) old.blocks.items) none so_far.blocks in
      meaning_begun items line (sym so_far.begun ∙ some) ∙ (ap (λ o. within_or_outside o (is_some (latest total_in items)) line.words) blocks.last
      ∙ ap (λ t. outside_of (is_some t) line.words) (sym so_far.total))

  has_open_block : (items : List RowItem) (block : BlockSoFar) → old.current ≡ Some block → IsRowsSoFar items old → HasOpen block (blocks_in items) old.blocks.items
  has_open_block items block is so_far = subst (λ o. AreBlocks o (blocks_in items) old.blocks.items) is so_far.blocks

  -- within a block
  meaning_within : (items : List RowItem) (block : BlockSoFar) → old.begun ≡ true → old.current ≡ Some block → IsRowsSoFar items old
      → row_meaning items line ≡ (part_of (block_stated block) line.words >>= λ p. Ok (part p))
  meaning_within items block some is so_far = let blocks = has_open_block items block is so_far in
      meaning_begun items line (sym so_far.begun ∙ some) ∙ (ap (λ o. within_or_outside o (is_some (latest total_in items)) line.words) (open_is items block old.blocks.items blocks)
      ∙ ap (λ t. part_of t line.words >>= λ p. Ok (part p)) (sym blocks.stated))

pub at_end : (t : BlockStated) (words : List (List ℕ)) → is_row_end words ≡ true → part_of t words ≡ (row_of t >>= λ row. Ok ended)
at_end t words is = cond-true (is_row_end words) (row_of t >>= λ row. Ok ended) (inner_of t words) is

pub part_inner : (t : BlockStated) (words : List (List ℕ)) → is_row_end words ≡ false → part_of t words ≡ inner_of t words
part_inner t words other = cond-false (is_row_end words) (row_of t >>= λ row. Ok ended) (inner_of t words) other

module _ (line : NumberedLine) (old new : RowsSoFar) where
  pub header_kept : old.begun ≡ false → is_header (codes "scl") line.words ≡ true → new.begun ≡ true → new.total ≡ old.total → new.current ≡ old.current → new.blocks.items ≡ old.blocks.items
      → (lines : List NumberedLine) → StandsFor row_form IsRowsSoFar old lines → StandsFor row_form IsRowsSoFar new (lines ++ line ∷ [])
  header_kept none is is_begun stated same_open same lines before = kept row_form IsRowsSoFar lines line old new header (λ items so_far. (
    meaning_first items line (sym so_far.begun ∙ none) ∙ cond-true _ _ _ is,
    record {
      begun = is_begun ∙ sym (has_items-push items header);
      total = stated ∙ (so_far.total ∙ sym (latest-no total_in items header refl));
      blocks = rw (same_open, same, groups-other begun_in part_in items header refl refl) so_far.blocks;
      ranges = rw same so_far.ranges;
    },
  )) before

  pub total_kept : (n : ℕ) → old.begun ≡ true → old.current ≡ None → is_keyed (codes "numrows") line.words ≡ true → count_of (is_some old.total) line.words ≡ Ok n
      → new.begun ≡ true → new.total ≡ Some n → new.current ≡ None → new.blocks.items ≡ old.blocks.items
      → (lines : List NumberedLine) → StandsFor row_form IsRowsSoFar old lines → StandsFor row_form IsRowsSoFar new (lines ++ line ∷ [])
  total_kept n some none key counts is_begun stated still_none same lines before = kept row_form IsRowsSoFar lines line old new (total n) (λ items so_far. (
    meaning_outside line old items some none so_far ∙ (cond-true _ _ _ key ∙ ap (λ r. r >>= λ m. Ok (total m)) counts),
    record {
      begun = is_begun ∙ sym (has_items-push items (total n));
      total = stated ∙ sym (latest-yes total_in items (total n) n refl);
      blocks = rw (still_none ∙ sym none, same, groups-other begun_in part_in items (total n) refl refl) so_far.blocks;
      ranges = rw same so_far.ranges;
    },
  )) before

  pub begun_kept : (block : BlockSoFar) → old.begun ≡ true → old.current ≡ None → is_keyed (codes "numrows") line.words ≡ false → is_row_start line.words ≡ true → block_stated block ≡ nothing_stated
      → new.begun ≡ true → new.total ≡ old.total → new.current ≡ Some block → new.blocks.items ≡ old.blocks.items
      → (lines : List NumberedLine) → StandsFor row_form IsRowsSoFar old lines → StandsFor row_form IsRowsSoFar new (lines ++ line ∷ [])
  begun_kept block some none other starts empty is_begun stated opened same lines before = kept row_form IsRowsSoFar lines line old new begun (λ items so_far. (
    meaning_outside line old items some none so_far ∙ (cond-false _ _ _ other ∙ cond-true _ _ _ starts),
    record {
      begun = is_begun ∙ sym (has_items-push items begun);
      total = stated ∙ (so_far.total ∙ sym (latest-no total_in items begun refl));
      blocks = rw (opened, same) (opens items (subst (λ o. AreBlocks o (blocks_in items) old.blocks.items) none so_far.blocks));
      ranges = rw same so_far.ranges;
    },
  )) before where
    opens : (items : List RowItem) → AreEnded (blocks_in items) old.blocks.items → HasOpen block (blocks_in (items ++ begun ∷ [])) old.blocks.items
    opens items blocks = record {
      before = blocks_in items;
      parts = [];
      split = groups-begun begun_in part_in items begun tt refl;
      ended = blocks.ended;
      stated = empty;
      goes_on = refl;
      range = record { y = tt; height = tt; width = tt; spacing = tt; subrows = tt };
    }

  pub part_kept : (block grown : BlockSoFar) → old.begun ≡ true → old.current ≡ Some block → is_row_end line.words ≡ false → HasPart (block_stated block) line.words grown
      → new.begun ≡ true → new.total ≡ old.total → new.current ≡ Some grown → new.blocks.items ≡ old.blocks.items
      → (lines : List NumberedLine) → StandsFor row_form IsRowsSoFar old lines → StandsFor row_form IsRowsSoFar new (lines ++ line ∷ [])
  part_kept block grown some is other has_part is_begun stated opened same lines before = kept row_form IsRowsSoFar lines line old new (part has_part.part) (λ items so_far. (
    meaning_within line old items block some is so_far ∙ ap (λ r. r >>= λ p. Ok (part p)) (part_inner (block_stated block) line.words other ∙ has_part.means),
    record {
      begun = is_begun ∙ sym (has_items-push items (part has_part.part));
      total = stated ∙ (so_far.total ∙ sym (latest-no total_in items (part has_part.part) refl));
      blocks = rw (opened, same) (grows items (has_open_block line old items block is so_far));
      ranges = rw same so_far.ranges;
    },
  )) before where
    grows : (items : List RowItem) → HasOpen block (blocks_in items) old.blocks.items → HasOpen grown (blocks_in (items ++ part has_part.part ∷ [])) old.blocks.items
    grows items blocks = let p = has_part.part in let inner = inner_range (block_stated block) line.words p has_part.means in
        let more : stated_by (blocks.parts ++ p ∷ []) ≡ stated_with (stated_by blocks.parts) p = stated_more blocks.parts p in record {
          before = blocks.before;
          parts = blocks.parts ++ p ∷ [];
          split = groups-part begun_in part_in items (part p) p blocks.before (block_of blocks.parts) refl refl blocks.split;
          ended = blocks.ended;
          stated = has_part.more ∙ (ap (λ t. stated_with t p) blocks.stated ∙ sym more);
          goes_on = ap is_some (latest-no end_in blocks.parts p inner.1) ∙ blocks.goes_on;
          range = subst IsStatedInRange (sym more) (stated_range_more (stated_by blocks.parts) p blocks.range inner.0);
        }

  pub end_kept : (block : BlockSoFar) (row : RowBlock) → old.begun ≡ true → old.current ≡ Some block → is_row_end line.words ≡ true → row_of (block_stated block) ≡ Ok (row_entry row)
      → new.begun ≡ true → new.total ≡ old.total → new.current ≡ None → new.blocks.items ≡ old.blocks.items ++ row ∷ []
      → (lines : List NumberedLine) → StandsFor row_form IsRowsSoFar old lines → StandsFor row_form IsRowsSoFar new (lines ++ line ∷ [])
  end_kept block row some is key makes is_begun stated closes pushed lines before = kept row_form IsRowsSoFar lines line old new (part ended) (λ items so_far. (
    meaning_within line old items block some is so_far ∙ (ap (λ r. r >>= λ p. Ok (part p)) (at_end (block_stated block) line.words key) ∙ ap (λ r. (r >>= λ entry. Ok ended) >>= λ p. Ok (part p)) makes),
    record {
      begun = is_begun ∙ sym (has_items-push items (part ended));
      total = stated ∙ (so_far.total ∙ sym (latest-no total_in items (part ended) refl));
      blocks = rw (closes, pushed) (ends items (has_open_block line old items block is so_far));
      ranges = rw (pushed, map-append row_entry old.blocks.items (row ∷ [])) (rows_range_more (row_entries old.blocks.items) (row_entry row) so_far.ranges (in_range items (has_open_block line old items block is so_far)));
    },
  )) before where
    makes_row : (items : List RowItem) (blocks : HasOpen block (blocks_in items) old.blocks.items) → row_of (stated_by blocks.parts) ≡ Ok (row_entry row)
    makes_row items blocks = ap row_of (sym blocks.stated) ∙ makes

    in_range : (items : List RowItem) → HasOpen block (blocks_in items) old.blocks.items → IsRowInRange (row_entry row)
    in_range items blocks = row_range (stated_by blocks.parts) (row_entry row) blocks.range (makes_row items blocks)

    ends : (items : List RowItem) → HasOpen block (blocks_in items) old.blocks.items → AreEnded (blocks_in (items ++ part ended ∷ [])) (old.blocks.items ++ row ∷ [])
    ends items blocks = let more = groups-part begun_in part_in items (part ended) ended blocks.before (block_of blocks.parts) refl refl blocks.split in
        let entry : row_entry row ≡ entry_of_row (block_of (blocks.parts ++ ended ∷ [])) = row_is blocks.parts (row_entry row) (makes_row items blocks) ∙ sym (entry_at_end blocks.parts) in record {
          last = ap (λ groups. open_in (last_of groups)) more ∙ (ap open_in (last_of-push blocks.before (block_of (blocks.parts ++ ended ∷ [])))
              ∙ cond-true _ _ _ (ap is_some (latest-yes end_in blocks.parts ended tt refl)));
          ended = map-append row_entry old.blocks.items (row ∷ []) ∙ (ap (λ rows. rows ++ row_entry row ∷ []) blocks.ended ∙ (ap (λ e. map entry_of_row blocks.before ++ e ∷ []) entry
              ∙ (sym (map-append entry_of_row blocks.before (block_of (blocks.parts ++ ended ∷ []) ∷ [])) ∙ ap (map entry_of_row) (sym more))));
        }

module _ (line : NumberedLine) (old : RowsSoFar) where
  pub end_refused : (block : BlockSoFar) (kind : TextKind) → old.begun ≡ true → old.current ≡ Some block → is_row_end line.words ≡ true → row_of (block_stated block) ≡ Err kind
      → (lines : List NumberedLine) → StandsFor row_form IsRowsSoFar old lines → Refuses row_form lines line kind
  end_refused block kind some is key fails lines before = refused row_form IsRowsSoFar lines line old kind (λ items so_far.
      meaning_within line old items block some is so_far ∙ (ap (λ r. r >>= λ p. Ok (part p)) (at_end (block_stated block) line.words key) ∙ ap (λ r. (r >>= λ entry. Ok ended) >>= λ p. Ok (part p)) fails)) before

  pub part_refused : (block : BlockSoFar) (kind : TextKind) → old.begun ≡ true → old.current ≡ Some block → is_row_end line.words ≡ false → inner_of (block_stated block) line.words ≡ Err kind
      → (lines : List NumberedLine) → StandsFor row_form IsRowsSoFar old lines → Refuses row_form lines line kind
  part_refused block kind some is other fails lines before = refused row_form IsRowsSoFar lines line old kind (λ items so_far.
      meaning_within line old items block some is so_far ∙ ap (λ r. r >>= λ p. Ok (part p)) (part_inner (block_stated block) line.words other ∙ fails)) before

  -- what a call on the block refused
  pub end_fails : {A : Type 0} (new : RowsSoFar) (block : BlockSoFar) (kind : TextKind) (r : Result A LineError) → IsErr r → IsErrAnd r (λ e. e ≡ Kind kind) → old.begun ≡ true → old.current ≡ Some block
      → is_row_end line.words ≡ true → row_of (block_stated block) ≡ Err kind → Keeps (StandsFor row_form IsRowsSoFar) (Refuses row_form) old new line r
  end_fails new block kind (Ok done) fails same some is key makes = cc
  end_fails new block kind (Err e) fails same some is key makes = rw same (end_refused block kind some is key makes)

  pub part_fails : {A : Type 0} (new : RowsSoFar) (block : BlockSoFar) (error : LineError) (r : Result A LineError) → IsErr r → IsErrAnd r (λ e. e ≡ error) → old.begun ≡ true → old.current ≡ Some block
      → is_row_end line.words ≡ false → IsOneMore (block_stated block) line.words (Err error) → Keeps (StandsFor row_form IsRowsSoFar) (Refuses row_form) old new line r
  part_fails new block error (Ok done) fails same some is other stated = cc
  part_fails new block (Kind kind) (Err e) fails same some is other stated = rw same (part_refused block kind some is other stated)
  part_fails new block Memory (Err e) fails same some is other stated = rw same tt

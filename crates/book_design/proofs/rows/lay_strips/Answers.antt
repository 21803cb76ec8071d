use Rattle.std.proofs.Common.{◌≡◌, ◌<◌, ◌∙◌, refl, sym, ap, subst, arith, length, map}
use Rattle.std.proofs.lemmas.List.{get_or-map, length-map}
use Rattle.book_files.specs.declared.records.RowBlock.{RowBlock}
use Rattle.book_files.specs.Entries.{RowEntry}
use Rattle.book_files.specs.Blocks.{row_entry}
use Rattle.book_files.specs.Ranges.{IsRowInRange}
use Rattle.book_design.specs.Forms.Parts.{outlines}
use Rattle.book_design.specs.Forms.Sources.{records_of}
use Rattle.book_design.proofs.RowsLaid.{laid_more, each_of}
use Rattle.book_design.proofs.rows.lay_strips.Goals as goal

pub lay_row-requires : goal.lay_row-requires
lay_row-requires c =
    let P : RowBlock → Type 0 = λ b. IsRowInRange (row_entry b) in
    subst P (sym c.row-item.is)
    (each_of (λ (r : RowEntry). IsRowInRange r) row_entry c.args.records.now.rows.now (map row_entry c.args.records.now.rows.now) c.loop-i.i c.row-item.result refl c.requires.ranges.rows c.loop-i-test.true)

pub loop-i-preserved : goal.loop-i-preserved
loop-i-preserved c =
    let item : RowBlock = c.row-item.result in
    let e : length (map row_entry c.args.records.now.rows.now) ≡ length c.args.records.now.rows.now = length-map c.args.records.now.rows.now row_entry in
    let below : c.loop-i.i < length (map row_entry c.args.records.now.rows.now) = omega (arith, c.loop-i-test.true) in
    laid_more (outlines (records_of c.args.records.now)) (map row_entry c.args.records.now.rows.now) c.loop-i.i (row_entry item) (row_entry item) c.loop-i.strips.items c.lay_row.new.strips.items below
    (ap row_entry c.row-item.is ∙ sym (get_or-map row_entry c.args.records.now.rows.now c.loop-i.i item (row_entry item) c.loop-i-test.true))
    c.in_ok-lay_row.ensures c.loop-i.invariant

use Rattle.std.proofs.Common.{◌≡◌, ◌∙◌, sym, ap, below_more}
use Rattle.std.proofs.lemmas.List.{get_or-map}
use Rattle.book_files.specs.declared.records.RowBlock.{RowBlock}
use Rattle.book_files.specs.Blocks.{row_entry}
use Rattle.book_design.specs.Records.{row_at}
use Rattle.book_design.specs.Forms.Sources.{records_of}
use Rattle.book_design.proofs.RowsEven.{not_mixed}
use Rattle.book_design.proofs.rows.mixed_row.Goals as goal

pub loop-i-preserved : goal.loop-i-preserved
loop-i-preserved c =
    let item : RowBlock = c.row-item.result in
    let here : row_entry c.row-item.result ≡ row_at (records_of c.args.records.now) c.loop-i.i =
    ap row_entry c.row-item.is ∙ sym (get_or-map row_entry c.args.records.now.rows.now c.loop-i.i item _ c.loop-i-test.true) in
    below_more _ _ c.loop-i.invariant (not_mixed (records_of c.args.records.now) c.loop-i.i (row_entry item) c.args.shape.now c.requires.shape here c.if-not-has_shape.ensures)

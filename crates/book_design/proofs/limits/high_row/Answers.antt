use Rattle.std.proofs.Common.{◌≡◌, ◌∙◌, sym, ap, subst, below_more}
use Rattle.std.proofs.lemmas.List.{get_or-map}
use Rattle.book_files.specs.declared.records.RowBlock.{RowBlock}
use Rattle.book_files.specs.Entries.{RowEntry}
use Rattle.book_files.specs.Blocks.{row_entry}
use Rattle.book_design.specs.Records.{row_at}
use Rattle.book_design.specs.Forms.Sources.{records_of}
use Rattle.book_design.specs.Forms.ValueLimits.{EndsHigh}
use Rattle.book_design.proofs.limits.high_row.Goals as goal

pub loop-i-preserved : goal.loop-i-preserved
loop-i-preserved c =
    let item : RowBlock = c.row-item.result in
    let P : RowEntry → Type 0 = λ row. EndsHigh row in
    let here : row_entry c.row-item.result ≡ row_at (records_of c.args.records.now) c.loop-i.i =
    ap row_entry c.row-item.is ∙ sym (get_or-map row_entry c.args.records.now.rows.now c.loop-i.i item _ c.loop-i-test.true) in
    below_more _ _ c.loop-i.invariant (λ high. c.if-ends_high.ensures (subst P (sym here) high.1))

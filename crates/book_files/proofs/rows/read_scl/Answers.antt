use Rattle.std.proofs.Common.{rules, List, Ok, Err, sym, ◌∙◌}
use Rattle.book_text.specs.Lines.{end_line}
use Rattle.book_files.specs.declared.fault.ReadError.TheVariants.{Fault}
use Rattle.book_files.specs.Entries.{RowEntry}
use Rattle.book_files.specs.Blocks.{row_entries}
use Rattle.book_files.specs.Forms.Rows.{row_form}
use Rattle.book_files.specs.RowRules.{rows_grammar}
use Rattle.book_files.proofs.Bridge.{answers_of}
use Rattle.book_files.proofs.RowDecides.{rows_decided}
use Rattle.book_files.proofs.RowReads.{rows_read, rows_refused, rows_few}
use Rattle.book_files.proofs.rows.read_scl.Goals as goal

pub returns-in_err-keep_lines-clause-reading : goal.returns-in_err-keep_lines-clause-reading
returns-in_err-keep_lines-clause-reading c = answers_of row_form rows_grammar rows_decided (λ (file : List RowEntry). file) c.args.bytes.now c.from_residual.result (search rules)

pub returns-in-None-clause-reading : goal.returns-in-None-clause-reading
returns-in-None-clause-reading c = answers_of row_form rows_grammar rows_decided (λ (file : List RowEntry). file) c.args.bytes.now (Ok (row_entries c.keep_lines.new.progress.blocks.items))
    (rows_read c.args.bytes.now c.keep_lines.new.progress c.in_ok-keep_lines.ensures (sym c.fault.ensures ∙ c.in-None.is))

pub returns-in-None-clause-few : goal.returns-in-None-clause-few
returns-in-None-clause-few c = rows_few c.args.bytes.now (row_entries c.keep_lines.new.progress.blocks.items) (rows_read c.args.bytes.now c.keep_lines.new.progress c.in_ok-keep_lines.ensures (sym c.fault.ensures ∙ c.in-None.is))

pub returns-in-Some-clause-reading : goal.returns-in-Some-clause-reading
returns-in-Some-clause-reading c = rw c.fault_at_end.ensures (answers_of row_form rows_grammar rows_decided (λ (file : List RowEntry). file) c.args.bytes.now (Err (Fault (record { line = end_line c.args.bytes.now; kind = c.in-Some.kind })))
    (rows_refused c.args.bytes.now c.keep_lines.new.progress c.in_ok-keep_lines.ensures c.in-Some.kind (sym c.fault.ensures ∙ c.in-Some.is)))

use Rattle.book_files.specs.declared.records.SubrowLine.{SubrowLine}
use Rattle.book_files.specs.Entries.{SubrowEntry, subrow_entry}
use Rattle.book_files.specs.Blocks.{row_entry}
use Rattle.book_files.specs.Ranges.{IsSubrowInRange}
use Rattle.book_design.specs.Records.{strip_of}
use Rattle.book_design.specs.Forms.Parts.{outline}
use Rattle.book_design.proofs.RowsLaid.{appended_more, appended_whole, append_none, each_of}
use Rattle.std.proofs.Common.{sym}
use Rattle.book_design.proofs.rows.lay_row.Goals as goal

pub loop-subrow-init : goal.loop-subrow-init
loop-subrow-init c = sym (append_none c.args.strips.now.items)

pub strip_in-requires-clause-subrow : goal.strip_in-requires-clause-subrow
strip_in-requires-clause-subrow c =
    each_of (λ (s : SubrowEntry). IsSubrowInRange s) subrow_entry c.as_slice-subrow-items.result.now _ c.loop-subrow.subrow-index _
    c.as_slice-subrow-items.ensures.lines c.as_slice-subrow-items.ensures.ranges c.loop-subrow-test.true

pub loop-subrow-preserved : goal.loop-subrow-preserved
loop-subrow-preserved c =
    appended_more (λ (line : SubrowLine). outline (strip_of c.args.number (row_entry c.args.row.now) (subrow_entry line))) c.as_slice-subrow-items.result.now c.loop-subrow.subrow-index _
    c.args.strips.now.items c.loop-subrow.strips.items c.push.new.self.items c.strip_in.result c.loop-subrow-test.true c.loop-subrow.invariant c.in_ok-push.ensures.items c.strip_in.ensures

pub returns : goal.returns
returns c =
    appended_whole (λ (s : SubrowEntry). outline (strip_of c.args.number (row_entry c.args.row.now) s)) subrow_entry c.as_slice-subrow-items.result.now c.args.row.now.subrows
    c.loop-subrow.subrow-index c.args.strips.now.items c.loop-subrow.strips.items c.loop-subrow-test.false c.as_slice-subrow-items.ensures.lines c.loop-subrow.invariant

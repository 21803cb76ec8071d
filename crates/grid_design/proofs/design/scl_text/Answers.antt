use Rattle.grid_design.specs.Texts.{row_lines}
use Rattle.grid_design.proofs.Appended.{pieces_more}
use Rattle.grid_design.proofs.design.scl_text.Goals as goal

pub loop-row-preserved : goal.loop-row-preserved
loop-row-preserved c =
    pieces_more (row_lines c.args.grid) c.put_stated.new.text.items c.loop-row.text.items c.put_row.new.text.items c.loop-row.row c.loop-row.invariant c.in_ok-put_row.ensures

use Rattle.std.proofs.Common.{rules}
use Rattle.grid_design.proofs.Written.{row_written}
use Rattle.grid_design.proofs.design.put_row.Goals as goal

pub returns : goal.returns
returns c =
    row_written c.put_line-2.result c.args.grid c.args.row _ _ _ c.args.text.now.items _ _ _ _ _ _ _ c.from-height.ensures (search rules) (search rules)
    c.in_ok-put_line.ensures c.in_ok-put_stated.ensures c.in_ok-put_stated-2.ensures c.in_ok-put_stated-3.ensures c.in_ok-put_stated-4.ensures c.in_ok-put_subrow.ensures c.put_line-2.ensures

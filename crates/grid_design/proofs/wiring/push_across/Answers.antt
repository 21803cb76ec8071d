use Rattle.std.proofs.Common.{◌+◌}
use Rattle.grid_design.specs.Parts.{net_of, cell_at}
use Rattle.grid_design.proofs.Appended.{pushed_more}
use Rattle.grid_design.proofs.Wired.{net_pushed}
use Rattle.grid_design.proofs.wiring.push_across.Goals as goal

pub loop-column-preserved : goal.loop-column-preserved
loop-column-preserved c =
    pushed_more (λ column. net_of (cell_at c.args.grid c.args.row column) (cell_at c.args.grid (c.args.row + 1) column)) c.args.nets.now.items c.loop-column.nets.items _ c.loop-column.column c.loop-column.invariant
    (net_pushed c.cell_at.result c.cell_at-in-loop-column.result _ _ c.loop-column.nets.items _ c.in_ok-push.ensures.items c.cell_at.ensures c.cell_at-in-loop-column.ensures)

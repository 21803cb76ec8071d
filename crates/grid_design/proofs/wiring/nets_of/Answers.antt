use Rattle.std.proofs.Common.{[]}
use Rattle.std.specs.List.{flat_map, range_with_len}
use Rattle.grid_design.specs.Parts.{nets_along, nets_across}
use Rattle.grid_design.proofs.Appended.{pieces_more}
use Rattle.grid_design.proofs.wiring.nets_of.Goals as goal

pub loop-row-preserved : goal.loop-row-preserved
loop-row-preserved c = pieces_more (nets_along c.args.grid) [] c.loop-row.nets.items c.push_along.new.nets.items c.loop-row.row c.loop-row.invariant c.in_ok-push_along.ensures

pub loop-row-2-preserved : goal.loop-row-2-preserved
loop-row-2-preserved c =
    pieces_more (nets_across c.args.grid) (flat_map (nets_along c.args.grid) (range_with_len 0 c.args.grid.rows)) c.loop-row-2.nets.items c.push_across.new.nets.items c.loop-row-2.row c.loop-row-2.invariant c.in_ok-push_across.ensures

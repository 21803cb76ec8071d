use Rattle.std.proofs.Common.{◌∙◌}
use Rattle.book_design.specs.Values.{node_values}
use Rattle.proud_top.proofs.Placing.{lines_more, line_read}
use Rattle.proud_top.proofs.placement.lines.Goals as goal

pub loop-i-preserved : goal.loop-i-preserved
loop-i-preserved c =
    lines_more (node_values c.args.nodes.now) c.args.corners.now c.loop-i.lines.items c.push.new.self.items c.line_of.result c.loop-i.i c.loop-i.invariant c.in_ok-push.ensures.items
    (c.line_of.ensures ∙ line_read c.args.nodes.now c.args.corners.now c.loop-i.i c.loop-i-test.true c.requires.all)

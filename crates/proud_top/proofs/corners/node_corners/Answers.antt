use Rattle.row_legal.specs.Spots.{spots_of}
use Rattle.proud_top.proofs.Placing.{corners_more}
use Rattle.proud_top.proofs.corners.node_corners.Goals as goal

pub loop-i-preserved : goal.loop-i-preserved
loop-i-preserved c =
    corners_more c.args.design.now.nodes (spots_of c.args.segments.now c.args.places.now) c.loop-i.i c.loop-i.corners.items c.push.new.self.items c.corner_of.result c.loop-i.invariant c.in_ok-push.ensures.items
    c.corner_of.ensures.corner c.corner_of.ensures.near

use Rattle.std.proofs.Common.{arith}
use Rattle.proud_top.proofs.Wishing.{wishes_more, wishes_whole}
use Rattle.proud_top.proofs.cells.wishes.Goals as goal

pub loop-point-preserved : goal.loop-point-preserved
loop-point-preserved c =
    wishes_more c.args.design.now c.args.level.now c.loop-point.point c.loop-point.wishes.items c.push.new.self.items _ c.loop-point.invariant c.in_ok-push.ensures.items c.wish_of.ensures

pub returns : goal.returns
returns c = wishes_whole c.args.design.now c.args.level.now c.loop-point.point c.loop-point.wishes.items (omega arith) c.loop-point.invariant

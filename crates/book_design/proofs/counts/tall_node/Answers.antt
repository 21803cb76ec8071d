use Rattle.std.proofs.Common.{below_more, refl}
use Rattle.book_design.proofs.Counting.{not_higher}
use Rattle.book_design.proofs.counts.tall_node.Goals as goal

pub loop-i-preserved : goal.loop-i-preserved
loop-i-preserved c =
    below_more _ _ c.loop-i.invariant (not_higher c.args.nodes.now _ c.loop-i.i _ _ c.loop-i-test.true refl c.if-is_higher.ensures)

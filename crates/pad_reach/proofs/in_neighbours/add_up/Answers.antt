use Rattle.std.proofs.Common.{arith}
use Rattle.pad_reach.proofs.Entries.{summed-le, IsSummed-more}
use Rattle.pad_reach.proofs.in_neighbours.add_up.Goals as goal

pub overflow_add-sum : goal.overflow_add-sum
overflow_add-sum c = omega (arith, summed-le _ _ _ _ c.loop-count.invariant c.loop-count-test.true)

pub loop-count-preserved : goal.loop-count-preserved
loop-count-preserved c = IsSummed-more _ _ _ _ c.loop-count.invariant c.loop-count-test.true c.loop-count.auto.counts

use Rattle.pad_reach.proofs.Entries.{IsSummed}
use Rattle.pad_reach.proofs.in_neighbours.add_up.Given as goal

abbrev pub invariant-loop-count : goal.invariant-loop-count
invariant-loop-count l = IsSummed l.fn.counts l.counts l.count-index l.sum

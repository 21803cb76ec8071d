use Rattle.std.proofs.Common.{length}
use Rattle.wire_report.proofs.lengths.+fn-sum_in_threads-join_mut+arg3+sum_in_threads.Given as goal

abbrev pub decreases-join_mut+arg3 : goal.decreases-join_mut+arg3
decreases-join_mut+arg3 g l = length l.rest.now

abbrev pub decreases-sum_in_threads : goal.decreases-sum_in_threads
decreases-sum_in_threads g l = length l.nets.now

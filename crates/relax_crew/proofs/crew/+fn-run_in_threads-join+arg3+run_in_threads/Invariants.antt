use Rattle.std.proofs.Common.{vec_len}
use Rattle.relax_crew.proofs.crew.+fn-run_in_threads-join+arg3+run_in_threads.Given as goal

abbrev pub decreases-join+arg3 : goal.decreases-join+arg3
decreases-join+arg3 g l = vec_len l.crew

abbrev pub decreases-run_in_threads : goal.decreases-run_in_threads
decreases-run_in_threads g l = vec_len l.crew

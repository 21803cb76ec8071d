use Rattle.wire_report.proofs.Adding.{all_good}
use Rattle.wire_report.proofs.lengths.hpwl.Goals as goal

pub sum_of-requires-clause-good : goal.sum_of-requires-clause-good
sum_of-requires-clause-good g c = all_good c.args.design.now c.nets-nets.result.now c.nets-nets.ensures.valid c.nets-nets.ensures.nets

pub sum_in_threads-requires-clause-good : goal.sum_in_threads-requires-clause-good
sum_in_threads-requires-clause-good g c κs within = all_good c.args.design.now c.nets-nets.result.now c.nets-nets.ensures.valid c.nets-nets.ensures.nets

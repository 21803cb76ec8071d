use Rattle.relax_crew.proofs.Sweeping.{turn_over}
use Rattle.relax_crew.proofs.crew.work.Goals as goal

pub returns-clause-turn : goal.returns-clause-turn
returns-clause-turn g c =
    turn_over c.args.table.now.system c.args.range.0 c.args.range.1 c.marks_of-first.result.0 c.marks_of-first.result.1 c.args.seat.now c.first_sweep.new.seat c.chase_side.new.seat c.settle.new.seat
    c.marks_of-first.ensures.from c.marks_of-first.ensures.to c.first_sweep.ensures.swept c.chase_side.ensures.goes_on c.chase_side.ensures.takes c.settle.ensures.begins c.settle.ensures.takes

use Rattle.std.proofs.Common.{ℕ, ◌<◌, List, length, IfOk, Result, Ok, Err}
use Rattle.std.proofs.lemmas.List.{length-map}
use Rattle.book_text.specs.declared.memory.Memory.{Memory}
use Rattle.area_cut.specs.declared.axis.Axis.{Axis}
use Rattle.net_model.specs.Values.{NetworkValue}
use Rattle.level_run.specs.declared.rounds.Rounds.{Rounds}
use Rattle.level_run.specs.Rounds.{IsInLimits, last_round, rounds_in}
use Rattle.level_run.specs.declared.level.Level.{Level}
use Rattle.level_run.specs.Levels.{IsLevels, HasChains, Encloses, solve_on, level_at, system_of}
use Rattle.relax_system.specs.System.{IsValid}
use Rattle.proud_top.specs.Solve.{AreSolved}
use Rattle.proud_top.specs.Forms.Over.{IsLastOver}
use Rattle.proud_top.proofs.Points.{last_over, last_there}
use Rattle.proud_top.proofs.solver.Solver.solve.Goals as goal

-- what the law says of the rounds
by_law : (network : NetworkValue) (rounds : Rounds) (result : Result (List Level) Memory)
    → ((levels : List Level) (axis : Axis) (k : ℕ) → IsLevels network rounds levels → k < rounds_in rounds → Encloses (system_of axis network levels k) (solve_on axis (level_at levels k)))
    → IfOk result (IsLevels network rounds) → IfOk result (AreSolved network rounds)
by_law network rounds (Ok levels) law is = record { levels_are = is; enclosed = λ axis k within. law levels axis k is within }
by_law network rounds (Err memory) law is = tt

pub returns-clause-solved : goal.returns-clause-solved
returns-clause-solved g c =
    let chains : HasChains c.args.network.now = λ p there. c.reach_leads.ensures _ c.args.reach.now p c.requires.reach (rw length-map there) in
    by_law c.args.network.now c.args.rounds c.levels.result
    (λ levels axis k is within. c.levels_enclose.ensures.encloses c.args.network.now c.args.rounds levels axis k c.points-points.ensures.valid chains is within)
    c.levels.ensures

-- and of their systems
over : (network : NetworkValue) (rounds : Rounds) (result : Result (List Level) Memory) → IsInLimits rounds
    → ((levels : List Level) (axis : Axis) → IsLevels network rounds levels → IsValid (system_of axis network levels (last_round rounds)))
    → IfOk result (IsLevels network rounds) → IfOk result (IsLastOver (length network.points) (last_round rounds))
over network rounds (Ok levels) limits law is = last_over network rounds levels limits (λ axis. law levels axis is) is
over network rounds (Err memory) limits law is = tt

pub returns-clause-over : goal.returns-clause-over
returns-clause-over g c =
    let chains : HasChains c.args.network.now = λ p there. c.reach_leads.ensures _ c.args.reach.now p c.requires.reach (rw length-map there) in
    over c.args.network.now c.args.rounds c.levels.result c.requires.limits
    (λ levels axis is. c.levels_enclose.ensures.valid c.args.network.now c.args.rounds levels axis (last_round c.args.rounds) c.points-points.ensures.valid chains is (last_there c.args.rounds c.requires.limits))
    c.levels.ensures

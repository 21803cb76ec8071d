use Rattle.std.proofs.Common.{◌≡◌, ◌+◌, ◌-◌, ◌*◌, ◌≤◌, ℕ, List, subst, arith}
use Rattle.std.proofs.Math.Nat.{mul-le-mul_left}
use Rattle.level_run.specs.declared.level.Level.{Level}
use Rattle.level_run.specs.Levels.{AreRounds}
use Rattle.level_run.specs.Rounds.{rounds_in}
use Rattle.level_run.proofs.laws.levels_are_one.Goals as goal
use Rattle.level_run.proofs.One.{rounds_there, rounds_one}

pub returns-clause-there : goal.returns-clause-there
returns-clause-there c = λ network rounds net chains some.
    let there = rounds_there (record { shares = c.parts_share.ensures; homes = c.points_have_homes.ensures; least_there = c.least_vector.ensures.there; greatest_there = c.greatest_vector.ensures.there }) network net chains rounds.passes (rounds_in rounds - 1) in
    let more : 1 ≤ rounds_in rounds = omega (arith, mul-le-mul_left (rounds.levels + 1) some) in
    let e : rounds_in rounds - 1 + 1 ≡ rounds_in rounds = omega arith in
    (there.0, subst (λ (many : ℕ). AreRounds network rounds.passes many there.0) e there.1)

pub returns-clause-one : goal.returns-clause-one
returns-clause-one c = λ network rounds. rounds_one network rounds.passes (rounds_in rounds)

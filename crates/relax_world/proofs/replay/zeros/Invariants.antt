use Rattle.std.proofs.Common.{◌≡◌, replicate}
use Rattle.relax_world.proofs.replay.zeros.Given as goal

abbrev pub invariant-loop : goal.invariant-loop
invariant-loop l = l.values ≡ replicate l.counter 0

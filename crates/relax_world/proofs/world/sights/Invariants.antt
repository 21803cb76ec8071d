use Rattle.std.proofs.Common.{◌≡◌, replicate}
use Rattle.relax_world.proofs.world.sights.Given as goal

abbrev pub invariant-loop : goal.invariant-loop
invariant-loop l = l.seen.items ≡ replicate l.counter l.words

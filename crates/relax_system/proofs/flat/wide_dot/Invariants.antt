use Rattle.std.proofs.Common.{◌≡◌, ◌+◌, length}
use Rattle.relax_system.proofs.Dots.{dot_so_far}
use Rattle.relax_system.proofs.flat.wide_dot.Given as goal

abbrev pub invariant-loop-number : goal.invariant-loop-number
invariant-loop-number l = l.sum ≡ dot_so_far (length l.yielded) l.numbers l.weights l.v + l.anchored

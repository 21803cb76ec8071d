use Rattle.std.proofs.Common.{◌≡◌, ◌++◌, take, drop}
use Rattle.relax_system.specs.Halved.{halved}
use Rattle.relax_system.proofs.points.Points.halve_anew.Given as goal

abbrev pub invariant-loop-i : goal.invariant-loop-i
invariant-loop-i l = l.points ≡ halved l.side l.shift (take l.i l.whole) ++ drop l.i l.initial.points

use Rattle.std.proofs.Common.{ℕ, ◌<◌}
use Rattle.relax_system.specs.System.{IsValidPoint, point_at}
use Rattle.relax_system.proofs.valid.are_valid_points.Given as goal

abbrev pub invariant-loop-i : goal.invariant-loop-i
invariant-loop-i l = (k : ℕ) → k < l.i → IsValidPoint l.points k (point_at l.points k)

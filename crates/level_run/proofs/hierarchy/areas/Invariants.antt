use Rattle.std.proofs.Common.{◌≡◌, take}
use Rattle.std.specs.Prelude.{map}
use Rattle.level_run.proofs.hierarchy.areas.Given as goal

abbrev pub invariant-loop-p : goal.invariant-loop-p
invariant-loop-p l = l.areas.items ≡ map (λ point. point.area) (take l.p l.network.points)

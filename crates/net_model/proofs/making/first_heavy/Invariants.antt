use Rattle.std.proofs.Common.{ℕ, ◌<◌}
use Rattle.net_model.specs.Forms.Steps.{IsHeavyPoint}
use Rattle.net_model.specs.Values.{point_values}
use Rattle.net_model.proofs.making.first_heavy.Given as goal

abbrev pub invariant-loop-p : goal.invariant-loop-p
invariant-loop-p l = (k : ℕ) → k < l.p → IsHeavyPoint (point_values l.points) k → ⊥

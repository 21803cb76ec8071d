use Rattle.std.proofs.Common.{ℕ, ◌<◌}
use Rattle.book_design.specs.Forms.ValueLimits.{HasNoWeight}
use Rattle.book_design.proofs.limits.bad_weight.Given as goal

abbrev pub invariant-loop-n : goal.invariant-loop-n
invariant-loop-n l = (k : ℕ) → k < l.n → HasNoWeight l.weights k → ⊥

use Rattle.std.proofs.Common.{ℕ, ◌<◌}
use Rattle.book_design.specs.Forms.ValueLimits.{IsCrowded}
use Rattle.book_design.proofs.limits.crowded_strip.Given as goal

abbrev pub invariant-loop-s : goal.invariant-loop-s
invariant-loop-s l = (k : ℕ) → k < l.s → IsCrowded l.strips k → ⊥

use Rattle.std.proofs.Common.{ℕ, ◌<◌}
use Rattle.book_design.specs.Forms.ValueLimits.{IsWide}
use Rattle.book_design.proofs.limits.wide_strip.Given as goal

abbrev pub invariant-loop-s : goal.invariant-loop-s
invariant-loop-s l = (k : ℕ) → k < l.s → IsWide l.strips k → ⊥

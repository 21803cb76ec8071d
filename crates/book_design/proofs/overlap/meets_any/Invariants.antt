use Rattle.std.proofs.Common.{ℕ, ◌-◌, ◌<◌, ◌≤◌}
use Rattle.book_design.specs.Forms.Overlap.{MeetsNoneOf}
use Rattle.book_design.proofs.overlap.meets_any.Given as goal

abbrev pub invariant-loop-near : goal.invariant-loop-near
invariant-loop-near l = (number : ℕ) → number < l.near → l.band - 1 ≤ number → MeetsNoneOf l.fn.height l.kept number l.strip

use Rattle.std.proofs.Common.{◌≡◌, length}
use Rattle.book_text.specs.Decimal.{without_trailing_zeros}
use Rattle.book_text.proofs.decimal.without_trailing_zeros.Given as goal

abbrev pub invariant-loop-kept : goal.invariant-loop-kept
invariant-loop-kept l = without_trailing_zeros l.digits ≡ without_trailing_zeros l.kept

abbrev pub decreases-loop-kept : goal.decreases-loop-kept
decreases-loop-kept l = length l.kept

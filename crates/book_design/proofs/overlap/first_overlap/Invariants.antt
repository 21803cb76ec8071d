use Rattle.book_design.proofs.OverlapRun.{IsSeen}
use Rattle.book_design.proofs.overlap.first_overlap.Given as goal

abbrev pub invariant-loop-i : goal.invariant-loop-i
invariant-loop-i l = IsSeen l.fn.height l.strips l.i l.earlier

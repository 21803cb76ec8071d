use Rattle.std.proofs.Common.{◌^◌, ℤ, pos, neg_ℤ, ◌+ℤ◌, ◌≤ℤ◌}
use Rattle.std.specs.Prelude.{unsigned_abs}
use Rattle.book_design.specs.declared.strips.Strip.{Strip as Kept}
use Rattle.book_design.specs.Forms.Overlap.{Has, Meet}
use Rattle.book_design.proofs.overlap.meets_in.Given as goal

-- none of those that begin at the end or after it shares area with the subrow
abbrev pub invariant-loop-other : goal.invariant-loop-other
invariant-loop-other l = record {
  low : neg_ℤ (pos (10 ^ 12)) ≤ℤ l.end;
  none : (left : ℤ) (t : Kept) → l.end ≤ℤ left → Has l.kept (l.band, left) t → Meet l.fn.height t l.strip → ⊥;
}

abbrev pub decreases-loop-other : goal.decreases-loop-other
decreases-loop-other l = unsigned_abs (l.end +ℤ pos (10 ^ 12))

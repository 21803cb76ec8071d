use Rattle.std.proofs.Common.{ℕ, ◌<◌, pos}
use Rattle.row_space.specs.Values.{segment_at}
use Rattle.row_space.specs.Ends.{IsGoodSegment}
use Rattle.row_tests.proofs.legal.are_good_segments.Given as goal

abbrev pub invariant-loop-segment : goal.invariant-loop-segment
invariant-loop-segment l = (s : ℕ) → s < l.segment-index → IsGoodSegment (pos 1000000) (segment_at l.list s)

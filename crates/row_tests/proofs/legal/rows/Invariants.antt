use Rattle.std.proofs.Common.{◌≡◌, pos, take}
use Rattle.row_tests.proofs.legal.rows.Given as goal

abbrev pub invariant-loop-segment : goal.invariant-loop-segment
invariant-loop-segment l = l.rows ≡ record { pitch = pos 1000000; segments = take l.segment-index l.list }

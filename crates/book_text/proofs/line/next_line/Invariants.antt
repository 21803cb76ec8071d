use Rattle.std.proofs.Common.{◌≡◌, ◌⊎◌, ◌+◌, ◌-◌, ◌≤◌, length, drop, slice_index}
use Rattle.book_text.specs.Lines.{content_from}
use Rattle.book_text.proofs.line.next_line.Given as goal

abbrev pub invariant-loop-start : goal.invariant-loop-start
invariant-loop-start l = record {
  ahead : l.at ≤ l.start;
  within : l.start ≤ length l.text;
  starts : (l.start ≡ l.at) ⊎ ((l.start ≡ length l.text) ⊎ (slice_index l.text (l.start - 1) ≡ 10));
  numbered : l.line ≤ l.start + 1;
  content : content_from l.number (drop l.at l.text) ≡ content_from l.line (drop l.start l.text);
}

abbrev pub decreases-loop-start : goal.decreases-loop-start
decreases-loop-start l = length l.text - l.start

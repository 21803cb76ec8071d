use Rattle.std.proofs.Common.{◌≡◌, ◌+◌, ◌-◌, ◌≤◌}
use Rattle.std.specs.List.{slice_range, suffix_len}
use Rattle.book_text.specs.Lines.{is_colon}
use Rattle.book_text.proofs.line.before_colons.Given as goal

abbrev pub invariant-loop-end : goal.invariant-loop-end
invariant-loop-end l = record {
  ordered : l.from ≤ l.end;
  within : l.end ≤ l.to;
  counted : l.end + suffix_len is_colon (slice_range l.text l.from l.to) ≡ l.to + suffix_len is_colon (slice_range l.text l.from l.end);
}

abbrev pub decreases-loop-end : goal.decreases-loop-end
decreases-loop-end l = l.end - l.from

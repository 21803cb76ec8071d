use Rattle.std.proofs.Common.{◌≡◌, List, ◌++◌, ◌+◌, ◌-◌, ◌≤◌, length, drop}
use Rattle.book_text.specs.Lines.{NumberedLine, content_of, content_from}
use Rattle.book_files.proofs.walk.keep_lines.Given as goal

-- the lines so far, which the progress stands for, and those of what is left are those of the text
abbrev pub invariant-loop-line : goal.invariant-loop-line
invariant-loop-line g l = record {
  within : l.at ≤ length l.text;
  numbered : l.number ≤ l.at + 1;
  front : List NumberedLine;
  lines : content_of l.text ≡ front ++ content_from l.number (drop l.at l.text);
  stands : g.P.Progress.stands_for l.progress front;
}

abbrev pub decreases-loop-line : goal.decreases-loop-line
decreases-loop-line g l = length l.text - l.at

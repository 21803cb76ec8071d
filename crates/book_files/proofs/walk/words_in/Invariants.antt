use Rattle.std.proofs.Common.{◌≡◌, ◌≤◌, ◌-◌, ◌++◌, map, slice_range}
use Rattle.book_text.specs.Lines.{words_of}
use Rattle.book_text.specs.Walk.{bytes_at}
use Rattle.book_files.proofs.walk.words_in.Given as goal

-- the words so far and those of what is left are those of the line
abbrev pub invariant-loop-word : goal.invariant-loop-word
invariant-loop-word l = record {
  within : l.at ≤ l.line.to;
  words : map (λ w. w.now) l.words.items ++ words_of (slice_range l.text l.at l.line.to) ≡ words_of (bytes_at l.text l.line);
}

abbrev pub decreases-loop-word : goal.decreases-loop-word
decreases-loop-word l = l.line.to - l.at

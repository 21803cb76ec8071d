use Rattle.std.proofs.Common.{◌≡◌, ℕ, ◌+◌, ◌<◌, length, take}
use Rattle.std.specs.List.{slice_index}
use Rattle.relax_table.specs.Forms.Chase.{marks_at}
use Rattle.relax_table.proofs.marks.marked.Given as goal

-- the start stands before the mark words so far
abbrev pub invariant-loop-word : goal.invariant-loop-word
invariant-loop-word l = record {
  front : take (length l.start) l.words.items ≡ l.start;
  all : length l.words.items ≡ length l.start + l.word;
  marks : (q : ℕ) → q < l.word → slice_index l.words.items (length l.start + q) ≡ marks_at (length l.start) q;
}

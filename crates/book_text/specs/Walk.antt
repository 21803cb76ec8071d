-- The next line and the next word, said of what is left of the text.
use Rattle.std.specs.Prelude.{◌≡◌, ◌⊎◌, ℕ, ◌+◌, ◌-◌, ◌<◌, ◌≤◌, ◌==◌, min, List, ◌∷◌, length, drop, slice_index, slice_range}
use Rattle.std.specs.List.{position_or_len}
use Rattle.book_text.specs.Lines.{words_of, content_from}
use Rattle.book_text.specs.declared.line.Span.{Span}
use Rattle.book_text.specs.declared.line.Line.{Line}

-- what is at the span
abbrev pub bytes_at : List ℕ → Span → List ℕ
bytes_at text span = slice_range text span.from span.to

-- From a place, where a line of the given number starts, this is the next line that isn't passed over. It starts at that place or
-- behind a line's end, ends before the next line's end or at the text's, and the next line starts behind it.
pub record IsNextLine (text : List ℕ) (at number : ℕ) (line : Line) : Type 0 where
  pub ahead : at ≤ line.words.from
  pub ordered : line.words.from ≤ line.words.to
  pub inside : line.words.to ≤ line.next
  pub further : at < line.next
  pub within : line.next ≤ length text
  pub starts : (line.words.from ≡ at) ⊎ (slice_index text (line.words.from - 1) ≡ 10)
  pub ends : line.words.to ≡ line.words.from + position_or_len (λ b. b == 10) (drop line.words.from text)
  pub behind : line.next ≡ min (length text) (line.words.to + 1)
  pub numbered : line.number ≤ line.next
  pub content : content_from number (drop at text) ≡ record { number = line.number; words = words_of (bytes_at text line.words) } ∷ content_from (line.number + 1) (drop line.next text)

-- From a place up to the line's end, this is the next word.
pub record IsNextWord (text : List ℕ) (at to : ℕ) (word : Span) : Type 0 where
  pub ahead : at ≤ word.from
  pub some : word.from < word.to
  pub inside : word.to ≤ to
  pub words : words_of (slice_range text at to) ≡ bytes_at text word ∷ words_of (slice_range text word.to to)

-- The lines of a text and the words of a line. The whole text is cut into a list of lines, each a list of words.
use Rattle.std.specs.Prelude.{◌≡◌, ◌≢◌, ℕ, ◌+◌, ◌-◌, ◌<◌, ◌⊎◌, Bool, true, false, not, ◌||◌, ◌==◌, List, [], ◌∷◌, ◌++◌, length, slice_index, take, drop, replicate, filter, flat_map, if◌then◌else◌}
use Rattle.std.specs.List.{slice_split, onto_first, prefix_len, suffix_len, list_all, join_with_byte}

-- a space, a tab or a carriage return
abbrev pub is_blank : ℕ → Bool
is_blank b = (b == 32) || (b == 9) || (b == 13)

abbrev pub is_colon : ℕ → Bool
is_colon b = b == 58

-- n words of one colon each
abbrev pub colons : ℕ → List (List ℕ)
colons n = replicate n (58 ∷ [])

-- the run without the colons that it begins with
abbrev pub behind_colons : List ℕ → List ℕ
behind_colons run = drop (prefix_len is_colon run) run

-- the run without the colons that it ends with
abbrev pub before_colons : List ℕ → List ℕ
before_colons run = take (length run - suffix_len is_colon run) run

-- the one word, or none of no bytes
abbrev pub word_or_none : List ℕ → List (List ℕ)
word_or_none [] = []
word_or_none (b ∷ bytes) = (b ∷ bytes) ∷ []

-- A run of bytes that aren't blanks is one word, but each colon at its start or at its end is a word of its own.
abbrev pub words_of_run : List ℕ → List (List ℕ)
words_of_run run = colons (prefix_len is_colon run) ++ (word_or_none (before_colons (behind_colons run)) ++ colons (suffix_len is_colon (behind_colons run)))

-- the words of a line: those of its runs between blanks
abbrev pub words_of : List ℕ → List (List ℕ)
words_of line = flat_map words_of_run (slice_split is_blank line)

-- a byte that a word may hold: no blank and no line's end
abbrev pub is_word_byte : ℕ → Bool
is_word_byte b = not (is_blank b || (b == 10))

-- A word of a line: it isn't empty, it has neither a blank nor a line's end, and no colon stands at its start or at its
-- end, or it is one colon.
pub record IsWord (word : List ℕ) : Type 0 where
  pub some : 0 < length word
  pub unbroken : list_all is_word_byte word ≡ true
  pub colons : (word ≡ 58 ∷ []) ⊎ ((slice_index word 0 ≢ 58) × (slice_index word (length word - 1) ≢ 58))

-- a line of these words, with one space between each two
abbrev pub spaced : List (List ℕ) → List ℕ
spaced words = join_with_byte 32 words

-- the lines of a text: each is ended by the byte 10, which the last one may lack
abbrev pub lines_of : List ℕ → List (List ℕ)
lines_of [] = []
lines_of (b ∷ bytes) = if b == 10 then [] ∷ lines_of bytes else onto_first b (lines_of bytes)

-- a line's number and its words
pub record NumberedLine : Type 0 where
  pub number : ℕ
  pub words : List (List ℕ)

-- the lines with their words, numbered from n on
abbrev pub numbered_from : ℕ → List (List ℕ) → List NumberedLine
numbered_from n [] = []
numbered_from n (line ∷ lines) = record { number = n; words = words_of line } ∷ numbered_from (n + 1) lines

-- a word that begins with #
abbrev pub is_comment_word : List ℕ → Bool
is_comment_word [] = false
is_comment_word (b ∷ bytes) = b == 35

-- the line has a word, and its first word doesn't begin a comment
abbrev pub has_content : List (List ℕ) → Bool
has_content [] = false
has_content (word ∷ words) = not (is_comment_word word)

-- the lines that aren't passed over, where the first line of the text has the number n
abbrev pub content_from : ℕ → List ℕ → List NumberedLine
content_from n text = filter (λ line. has_content line.words) (numbered_from n (lines_of text))

-- the lines of a whole text that aren't passed over
abbrev pub content_of : List ℕ → List NumberedLine
content_of text = content_from 1 text

-- the number behind the last line's, which a fault at the end of the text has
abbrev pub end_line : List ℕ → ℕ
end_line text = length (lines_of text) + 1

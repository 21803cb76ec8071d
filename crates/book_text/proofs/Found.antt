-- What is found in a line or a text are words.
use Rattle.std.proofs.Common.{◌≡◌, ℕ, ◌+◌, ◌-◌, ◌<◌, ◌≤◌, true, false, not, inl, inr, List, [], ◌∷◌, ◌++◌, length, take, drop, get_or, refl, sym, ap, add-zero, subst, ◌∙◌, ⊎_elim, arith}
use Rattle.std.specs.List.{All, AllByRecursion, flat_map, list_all, slice_split, onto_first, prefix_len, suffix_len}
use Rattle.std.proofs.lemmas.Bool.{cases_Bool, and_parts, and_from, eqb-false, not-true, not_from_false, or_from}
use Rattle.std.proofs.lemmas.List.{length-take-le, length-drop, get_or-take, get_or-drop}
use Rattle.std.proofs.lemmas.List.Elements.{All-nil, All-cons, All-append, All-replicate, All-take, All-drop, All-filter}
use Rattle.std.proofs.lemmas.List.Splits.{slice_split-cons_yes, slice_split-cons_no}
use Rattle.std.proofs.lemmas.List.Sums.{AllPass-from_list_all, list_all-from_AllPass, prefix_len_stops}
use Rattle.book_text.proofs.Prefixes.{suffix_len_stops, suffix_len-front_no}
use Rattle.book_text.proofs.Spaced.{is_open}
use Rattle.book_text.proofs.TextLines.{is_line_end, lines_of-end, lines_of-more}
use Rattle.book_text.specs.Lines.{is_blank, is_colon, is_word_byte, IsWord, NumberedLine, before_colons, behind_colons, colons, word_or_none, words_of_run, words_of, lines_of, numbered_from, has_content, content_from}

unbroken-take : (n : ℕ) (bytes : List ℕ) → list_all is_word_byte bytes ≡ true → list_all is_word_byte (take n bytes) ≡ true
unbroken-take n bytes h = list_all-from_AllPass is_word_byte (take n bytes) (All-take (λ b. is_word_byte b ≡ true) n bytes (AllPass-from_list_all is_word_byte bytes h))

unbroken-drop : (n : ℕ) (bytes : List ℕ) → list_all is_word_byte bytes ≡ true → list_all is_word_byte (drop n bytes) ≡ true
unbroken-drop n bytes h = list_all-from_AllPass is_word_byte (drop n bytes) (All-drop (λ b. is_word_byte b ≡ true) n bytes (AllPass-from_list_all is_word_byte bytes h))

-- what a run without colons at its start is, without those at its end
inner_word : (b : ℕ) (rest : List ℕ) → is_colon b ≡ false → list_all is_word_byte (b ∷ rest) ≡ true → IsWord (before_colons (b ∷ rest))
inner_word b rest first unbroken =
    let run = b ∷ rest in let k = suffix_len is_colon run in let n = length run - k in
    let few : k ≤ length rest = suffix_len-front_no is_colon b rest first in
    let word_length : length (take n run) ≡ n = length-take-le n run (omega arith) in
    let last : n - 1 ≡ length run - k - 1 = refl in
    record {
      some = omega arith;
      unbroken = unbroken-take n run unbroken;
      colons = inr (
        (λ e. eqb-false b 58 first (sym (get_or-take n run 0 0 (omega arith)) ∙ e)),
        (λ e. eqb-false _ 58 (suffix_len_stops is_colon run (omega arith)) (sym (ap (λ i. get_or (take n run) (i - 1) 0) word_length ∙ get_or-take n run (n - 1) 0 (omega arith)) ∙ e)),
      );
    }

colon_word : IsWord (58 ∷ [])
colon_word = record { some = omega arith; unbroken = refl; colons = inl refl }

one_or_none : (run : List ℕ) → list_all is_word_byte run ≡ true → (0 < length run → is_colon (get_or run 0 0) ≡ false) → All IsWord (word_or_none (before_colons run))
one_or_none [] unbroken first = All-nil IsWord
one_or_none (b ∷ rest) unbroken first = only (before_colons (b ∷ rest)) (inner_word b rest (first (omega arith)) unbroken)
  where
    only : (word : List ℕ) → IsWord word → All IsWord (word_or_none word)
    only [] w = All-nil IsWord
    only (b ∷ word) w = All-cons IsWord (b ∷ word) [] w (All-nil IsWord)

run_words : (run : List ℕ) → list_all is_word_byte run ≡ true → All IsWord (words_of_run run)
run_words run unbroken =
    let n = prefix_len is_colon run in let inner = behind_colons run in
    let first : 0 < length inner → is_colon (get_or inner 0 0) ≡ false =
    λ some. ap is_colon (get_or-drop n run 0 0 ∙ ap (λ i. get_or run i 0) (add-zero n)) ∙ prefix_len_stops is_colon run 0 (omega (arith, some, length-drop n run)) in
    All-append IsWord (colons n) (word_or_none (before_colons inner) ++ colons (suffix_len is_colon inner)) (All-replicate IsWord n (58 ∷ []) colon_word)
    (All-append IsWord (word_or_none (before_colons inner)) (colons (suffix_len is_colon inner)) (one_or_none inner (unbroken-drop n run unbroken) first)
    (All-replicate IsWord (suffix_len is_colon inner) (58 ∷ []) colon_word))

-- the parts of a line between its blanks hold no blank
abbrev IsUnbroken : List ℕ → Type 0
IsUnbroken part = list_all is_word_byte part ≡ true

onto_unbroken : (b : ℕ) (parts : List (List ℕ)) → is_word_byte b ≡ true → AllByRecursion IsUnbroken parts → AllByRecursion IsUnbroken (onto_first b parts)
onto_unbroken b [] e all = (and_from (is_word_byte b) true e refl, tt)
onto_unbroken b (part ∷ parts) e all = (and_from (is_word_byte b) (list_all is_word_byte part) e all.0, all.1)

parts_unbroken : (line : List ℕ) → is_open line ≡ true → AllByRecursion IsUnbroken (slice_split is_blank line)
parts_unbroken [] e = (refl, tt)
parts_unbroken (b ∷ line) e = let both = and_parts (not (is_line_end b)) (is_open line) e in let rest = parts_unbroken line both.1 in ⊎_elim
    (λ blank. subst (λ (parts : List (List ℕ)). AllByRecursion IsUnbroken parts) (sym (slice_split-cons_yes is_blank b line blank)) (refl, rest))
    (λ other. let byte : is_word_byte b ≡ true = not_from_false _ (or_from (is_blank b) (is_line_end b) other (not-true (is_line_end b) both.0)) in
    subst (λ (parts : List (List ℕ)). AllByRecursion IsUnbroken parts) (sym (slice_split-cons_no is_blank b line other)) (onto_unbroken b (slice_split is_blank line) byte rest))
    (cases_Bool (is_blank b))

parts_words : (parts : List (List ℕ)) → AllByRecursion IsUnbroken parts → All IsWord (flat_map words_of_run parts)
parts_words [] all = All-nil IsWord
parts_words (part ∷ parts) all = All-append IsWord (words_of_run part) (flat_map words_of_run parts) (run_words part all.0) (parts_words parts all.1)

line_words : (line : List ℕ) → is_open line ≡ true → All IsWord (words_of line)
line_words line e = parts_words (slice_split is_blank line) (parts_unbroken line e)

-- no line of a text holds a line's end
onto_open : (b : ℕ) (lines : List (List ℕ)) → not (is_line_end b) ≡ true → AllByRecursion (λ line. is_open line ≡ true) lines → AllByRecursion (λ line. is_open line ≡ true) (onto_first b lines)
onto_open b [] e all = (and_from (not (is_line_end b)) true e refl, tt)
onto_open b (line ∷ lines) e all = (and_from (not (is_line_end b)) (is_open line) e all.0, all.1)

lines_open : (text : List ℕ) → AllByRecursion (λ line. is_open line ≡ true) (lines_of text)
lines_open [] = tt
lines_open (b ∷ text) = let rest = lines_open text in ⊎_elim
    (λ ends. subst (λ (lines : List (List ℕ)). AllByRecursion (λ line. is_open line ≡ true) lines) (sym (lines_of-end b text ends)) (refl, rest))
    (λ goes_on. subst (λ (lines : List (List ℕ)). AllByRecursion (λ line. is_open line ≡ true) lines) (sym (lines_of-more b text goes_on))
    (onto_open b (lines_of text) (not_from_false (is_line_end b) goes_on) rest))
    (cases_Bool (is_line_end b))

numbered_words : (number : ℕ) (lines : List (List ℕ)) → AllByRecursion (λ line. is_open line ≡ true) lines → All (λ line. All IsWord line.words) (numbered_from number lines)
numbered_words number [] all = All-nil _
numbered_words number (line ∷ lines) all = All-cons (λ (l : NumberedLine). All IsWord l.words) (record { number = number; words = words_of line }) (numbered_from (number + 1) lines)
    (line_words line all.0) (numbered_words (number + 1) lines all.1)

-- what stands in the lines of a text are words
pub content_words : (number : ℕ) (text : List ℕ) → All (λ line. All IsWord line.words) (content_from number text)
content_words number text = All-filter (λ line. has_content line.words) (λ line. All IsWord line.words) (numbered_from number (lines_of text)) (numbered_words number (lines_of text) (lines_open text))

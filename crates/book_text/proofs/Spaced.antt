-- A line of words with one space between each two has exactly these words, and is one line.
use Rattle.std.proofs.Common.{◌≡◌, ◌==◌, ℕ, ◌-◌, ◌<◌, Bool, true, false, not, List, [], ◌∷◌, ◌++◌, length, take, get_or, refl, sym, ap, subst, ◌∙◌, ⊎_elim, arith}
use Rattle.std.specs.List.{All, AllByRecursion, flat_map, list_all, slice_split, onto_first, suffix_len}
use Rattle.std.proofs.lemmas.Bool.{and_parts, and_from, not-true, not_from_false, or_parts, ne_eqb}
use Rattle.std.proofs.lemmas.List.{take_all}
use Rattle.std.proofs.lemmas.List.Elements.{All-weaker, recursion_from_All}
use Rattle.std.proofs.lemmas.List.Folds.{list_all-append}
use Rattle.std.proofs.lemmas.List.Splits.{slice_split_none, slice_split_at}
use Rattle.std.proofs.lemmas.List.Sums.{AllPass-from_list_all, suffix_len_is}
use Rattle.book_text.proofs.Words.{words_of_run-word}
use Rattle.book_text.proofs.TextLines.{is_line_end, lines_of-more}
use Rattle.book_text.specs.Lines.{is_blank, is_colon, is_word_byte, IsWord, colons, words_of_run, words_of, lines_of, spaced}

-- a word that no colon begins or ends
whole_run : (b : ℕ) (rest : List ℕ) → is_colon b ≡ false → is_colon (get_or (b ∷ rest) (length (b ∷ rest) - 1) 0) ≡ false → words_of_run (b ∷ rest) ≡ (b ∷ rest) ∷ []
whole_run b rest first last =
    let word = b ∷ rest in let n = length word in let none : suffix_len is_colon word ≡ 0 = suffix_len_is is_colon word n 0 (omega arith) (λ k low high. absurd (omega arith)) (λ some. last) ∙ omega arith in
    words_of_run-word b rest first ∙ ap (λ k. take (n - k) word ∷ colons k) none ∙ ap (λ w. w ∷ []) (take_all (n - 0) word (omega arith))

words_of_run-one : (word : List ℕ) → IsWord word → words_of_run word ≡ word ∷ []
words_of_run-one word w = ⊎_elim
    (λ colon. subst (λ (r : List ℕ). words_of_run r ≡ r ∷ []) (sym colon) refl)
    (λ ends. without_colons word w.some ends.0 ends.1)
    w.colons
  where
    without_colons : (word : List ℕ) → 0 < length word → (get_or word 0 0 ≡ 58 → ⊥) → (get_or word (length word - 1) 0 ≡ 58 → ⊥) → words_of_run word ≡ word ∷ []
    without_colons [] some first last = absurd (omega arith)
    without_colons (b ∷ rest) some first last = whole_run b rest (ne_eqb b 58 first) (ne_eqb _ 58 last)

no_blanks : (word : List ℕ) → IsWord word → All (λ b. is_blank b ≡ false) word
no_blanks word w = All-weaker (λ b. is_word_byte b ≡ true) (λ b. is_blank b ≡ false) (λ b e. (or_parts (is_blank b) (b == 10) (not-true _ e)).0) word (AllPass-from_list_all is_word_byte word w.unbroken)

-- the parts between the spaces are the words
slice_split-spaced : (word : List ℕ) (words : List (List ℕ)) → AllByRecursion IsWord (word ∷ words) → slice_split is_blank (spaced (word ∷ words)) ≡ word ∷ words
slice_split-spaced word [] all = slice_split_none is_blank word (no_blanks word all.0)
slice_split-spaced word (next ∷ words) all = slice_split_at is_blank word 32 (spaced (next ∷ words)) (no_blanks word all.0) refl
    ∙ ap (λ parts. word ∷ parts) (slice_split-spaced next words all.1)

flat_map-words : (words : List (List ℕ)) → AllByRecursion IsWord words → flat_map words_of_run words ≡ words
flat_map-words [] all = refl
flat_map-words (word ∷ words) all = ap (λ first. first ++ flat_map words_of_run words) (words_of_run-one word all.0) ∙ ap (λ rest. word ∷ rest) (flat_map-words words all.1)

spaced-words : (words : List (List ℕ)) → AllByRecursion IsWord words → words_of (spaced words) ≡ words
spaced-words [] all = refl
spaced-words (word ∷ words) all = ap (flat_map words_of_run) (slice_split-spaced word words all) ∙ flat_map-words (word ∷ words) all

pub words_of-spaced : (words : List (List ℕ)) → All IsWord words → words_of (spaced words) ≡ words
words_of-spaced words all = spaced-words words (recursion_from_All IsWord words all)

-- a line's bytes, with no line's end among them
abbrev pub is_open : List ℕ → Bool
is_open line = list_all (λ b. not (is_line_end b)) line

pub lines_of-line : (line text : List ℕ) → is_open line ≡ true → lines_of (line ++ 10 ∷ text) ≡ line ∷ lines_of text
lines_of-line [] text unended = refl
lines_of-line (b ∷ line) text unended = let parts = and_parts (not (is_line_end b)) (is_open line) unended in
    lines_of-more b (line ++ 10 ∷ text) (not-true (is_line_end b) parts.0) ∙ ap (onto_first b) (lines_of-line line text parts.1)

word_is_open : (word : List ℕ) → list_all is_word_byte word ≡ true → is_open word ≡ true
word_is_open [] unbroken = refl
word_is_open (b ∷ word) unbroken = let parts = and_parts (is_word_byte b) (list_all is_word_byte word) unbroken in
    and_from (not (is_line_end b)) (is_open word) (not_from_false (is_line_end b) (or_parts (is_blank b) (b == 10) (not-true _ parts.0)).1) (word_is_open word parts.1)

spaced_is_open : (words : List (List ℕ)) → AllByRecursion IsWord words → is_open (spaced words) ≡ true
spaced_is_open [] all = refl
spaced_is_open (word ∷ []) all = word_is_open word (IsWord.unbroken all.0)
spaced_is_open (word ∷ next ∷ words) all = list_all-append (λ b. not (is_line_end b)) word (32 ∷ spaced (next ∷ words))
    ∙ and_from (is_open word) (is_open (spaced (next ∷ words))) (word_is_open word (IsWord.unbroken all.0)) (spaced_is_open (next ∷ words) all.1)

pub lines_of-spaced : (words : List (List ℕ)) (text : List ℕ) → All IsWord words → lines_of (spaced words ++ 10 ∷ text) ≡ spaced words ∷ lines_of text
lines_of-spaced words text all = lines_of-line (spaced words) text (spaced_is_open words (recursion_from_All IsWord words all))

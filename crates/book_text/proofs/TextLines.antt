-- The lines of a text from its front, and whether a line is passed over.
use Rattle.std.proofs.Common.{◌≡◌, ◌==◌, ℕ, ◌+◌, ◌-◌, ◌<◌, Bool, if◌then◌else◌, true, false, not, cond, List, [], ◌∷◌, length, take, drop, get_or, refl, sym, ap, subst, ◌∙◌, ⊎_elim, arith, suc, zero}
use Rattle.std.specs.List.{onto_first, prefix_len, position_or_len, count_by}
use Rattle.std.proofs.lemmas.Bool.{cases_Bool, cond-true, cond-false, eqb-true, not_from_true, not_from_false}
use Rattle.std.proofs.lemmas.List.{drop_all, drop_more}
use Rattle.std.proofs.lemmas.List.Sums.{prefix_len_stops, sum_by-cons}
use Rattle.book_text.proofs.Prefixes.{prefix_len-yes, prefix_len-no, take_prefix-yes}
use Rattle.book_text.proofs.Words.{words_of-colon, words_of-blanks, first_word}
use Rattle.book_text.specs.Lines.{is_blank, is_colon, words_of, lines_of, has_content, is_comment_word, content_from}

abbrev pub is_line_end : ℕ → Bool
is_line_end b = b == 10

-- where the first line of a text ends
abbrev pub first_end : List ℕ → ℕ
first_end text = position_or_len is_line_end text

pub lines_of-end : (b : ℕ) (text : List ℕ) → is_line_end b ≡ true → lines_of (b ∷ text) ≡ [] ∷ lines_of text
lines_of-end b text e = rw e refl

pub lines_of-more : (b : ℕ) (text : List ℕ) → is_line_end b ≡ false → lines_of (b ∷ text) ≡ onto_first b (lines_of text)
lines_of-more b text e = rw e refl

-- the first line of a text, given the same of what is behind its first byte
lines_of-step : (b : ℕ) (text : List ℕ) → onto_first b (lines_of text) ≡ (b ∷ take (first_end text) text) ∷ lines_of (drop (first_end text + 1) text)
    → lines_of (b ∷ text) ≡ take (first_end (b ∷ text)) (b ∷ text) ∷ lines_of (drop (first_end (b ∷ text) + 1) (b ∷ text))
lines_of-step b text onto = let fails : ℕ → Bool = λ x. not (is_line_end x) in ⊎_elim
    (λ ends. lines_of-end b text ends ∙ sym (rw (prefix_len-no fails b text (not_from_true (is_line_end b) ends)) refl))
    (λ goes_on. let passes = not_from_false (is_line_end b) goes_on in
    let next : suc (first_end text + 1) ≡ first_end (b ∷ text) + 1 = omega (arith, prefix_len-yes fails b text passes) in
    lines_of-more b text goes_on ∙ onto
    ∙ ap (λ line. line ∷ lines_of (drop (first_end text + 1) text)) (sym (take_prefix-yes fails b text passes))
    ∙ ap (λ k. take (first_end (b ∷ text)) (b ∷ text) ∷ lines_of (drop k (b ∷ text))) next)
    (cases_Bool (is_line_end b))

onto_first-lines_of : (b : ℕ) (text : List ℕ) → onto_first b (lines_of text) ≡ (b ∷ take (first_end text) text) ∷ lines_of (drop (first_end text + 1) text)
onto_first-lines_of b [] = refl
onto_first-lines_of b (c ∷ text) = ap (onto_first b) (lines_of-step c text (onto_first-lines_of c text))

-- the first line of a text that isn't empty, and the others
pub lines_of-first : (b : ℕ) (text : List ℕ) → lines_of (b ∷ text) ≡ take (first_end (b ∷ text)) (b ∷ text) ∷ lines_of (drop (first_end (b ∷ text) + 1) (b ∷ text))
lines_of-first b text = lines_of-step b text (onto_first-lines_of b text)

is_comment_word-take : (b : ℕ) (rest : List ℕ) (to : ℕ) → 0 < to → is_comment_word (take to (b ∷ rest)) ≡ (b == 35)
is_comment_word-take b rest zero some = absurd (omega arith)
is_comment_word-take b rest (suc to) some = refl

-- whether a line is passed over depends on its first byte that is no blank
pub has_content-first : (b : ℕ) (rest : List ℕ) → is_blank b ≡ false → has_content (words_of (b ∷ rest)) ≡ not (b == 35)
has_content-first b rest no_blank = ⊎_elim
    (λ colon. subst (λ (c : ℕ). has_content (words_of (c ∷ rest)) ≡ not (c == 35)) (sym (eqb-true b 58 colon)) (ap has_content (words_of-colon rest)))
    (λ other. let first = first_word (b ∷ rest) rest b refl no_blank other in
    ap has_content first.words ∙ ap not (is_comment_word-take b rest _ first.some))
    (cases_Bool (is_colon b))

pub has_content-blank : (line : List ℕ) → prefix_len is_blank line ≡ length line → has_content (words_of line) ≡ false
has_content-blank line all = ap has_content (words_of-blanks line ∙ ap words_of (drop_all (prefix_len is_blank line) line (omega arith)))

pub has_content-behind_blanks : (line : List ℕ) → prefix_len is_blank line < length line → has_content (words_of line) ≡ not (get_or line (prefix_len is_blank line) 0 == 35)
has_content-behind_blanks line some = let n = prefix_len is_blank line in
    ap has_content (words_of-blanks line ∙ ap words_of (drop_more line n 0 some)) ∙ has_content-first _ (drop (n + 1) line) (prefix_len_stops is_blank line 0 some)

-- the lines of a text that are kept: the first of all, if it is, and the others
pub content_from-first : (number : ℕ) (text : List ℕ) → 0 < length text
    → content_from number text ≡ cond (has_content (words_of (take (first_end text) text)))
    (record { number = number; words = words_of (take (first_end text) text) } ∷ content_from (number + 1) (drop (first_end text + 1) text))
    (content_from (number + 1) (drop (first_end text + 1) text))
content_from-first number [] some = absurd (omega arith)
content_from-first number (b ∷ text) some = rw (lines_of-first b text) refl

length-onto_first : (b : ℕ) (lines : List (List ℕ)) → 0 < length lines → length (onto_first b lines) ≡ length lines
length-onto_first b [] some = absurd (omega arith)
length-onto_first b (line ∷ lines) some = refl

-- the line that a text ends with, if it lacks its end
abbrev pub open_lines : List ℕ → ℕ
open_lines [] = 0
open_lines (b ∷ []) = if is_line_end b then 0 else 1
open_lines (b ∷ c ∷ text) = open_lines (c ∷ text)

open_lines-cons : (b : ℕ) (text : List ℕ) → open_lines (b ∷ text) ≡ (if is_line_end (get_or (b ∷ text) (length text) 0) then 0 else 1)
open_lines-cons b [] = refl
open_lines-cons b (c ∷ text) = open_lines-cons c text

pub open_lines-last : (text : List ℕ) → 0 < length text → open_lines text ≡ (if is_line_end (get_or text (length text - 1) 0) then 0 else 1)
open_lines-last [] some = absurd (omega arith)
open_lines-last (b ∷ text) some = let last : length text ≡ suc (length text) - 1 = omega arith in
    open_lines-cons b text ∙ ap (λ i. if is_line_end (get_or (b ∷ text) i 0) then 0 else 1) last

length-lines_of-step : (b c : ℕ) (text : List ℕ) → length (lines_of (c ∷ text)) ≡ count_by is_line_end (c ∷ text) + open_lines (c ∷ text)
    → length (lines_of (b ∷ c ∷ text)) ≡ count_by is_line_end (b ∷ c ∷ text) + open_lines (b ∷ c ∷ text)
length-lines_of-step b c text rest = let counted = sum_by-cons (λ x. cond (is_line_end x) 1 0) b (c ∷ text) in ⊎_elim
    (λ ends. ap length (lines_of-end b (c ∷ text) ends) ∙ omega (arith, rest, counted, cond-true {A = ℕ} (is_line_end b) 1 0 ends))
    (λ goes_on. ap length (lines_of-more b (c ∷ text) goes_on)
    ∙ length-onto_first b (lines_of (c ∷ text)) (omega (arith, ap length (lines_of-first c text)))
    ∙ omega (arith, rest, counted, cond-false {A = ℕ} (is_line_end b) 1 0 goes_on))
    (cases_Bool (is_line_end b))

length-lines_of-one : (b : ℕ) → length (lines_of (b ∷ [])) ≡ count_by is_line_end (b ∷ []) + open_lines (b ∷ [])
length-lines_of-one b = ⊎_elim
    (λ ends. ap length (lines_of-end b [] ends) ∙ sym (rw ends refl))
    (λ goes_on. ap length (lines_of-more b [] goes_on) ∙ sym (rw goes_on refl))
    (cases_Bool (is_line_end b))

-- a text has a line for each line end, and one that lacks it
pub length-lines_of : (text : List ℕ) → length (lines_of text) ≡ count_by is_line_end text + open_lines text
length-lines_of [] = refl
length-lines_of (b ∷ []) = length-lines_of-one b
length-lines_of (b ∷ c ∷ text) = length-lines_of-step b c text (length-lines_of (c ∷ text))

-- The words of a line, from its front: blanks are passed over, a colon in front is a word, and so is a run up to its colons.
use Rattle.std.proofs.Common.{◌≡◌, ℕ, ◌-◌, ◌<◌, ◌≤◌, Bool, true, false, not, suc, zero, List, [], ◌∷◌, ◌++◌, length, take, drop, replicate, refl, sym, ap, subst, ◌∙◌, ⊎_elim, arith}
use Rattle.std.proofs.Math.Numerals.{one-add}
use Rattle.std.specs.List.{slice_split, onto_first, prefix_len, suffix_len, position_or_len, before_first, flat_map}
use Rattle.std.proofs.lemmas.Bool.{cases_Bool, not_from_false}
use Rattle.std.proofs.lemmas.List.{length-take-le, drop-append-le, take-take, take-append-drop}
use Rattle.std.proofs.lemmas.List.Sums.{prefix_len-le-length}
use Rattle.book_text.proofs.Prefixes.{prefix_len-no, take_prefix-yes, drop_prefix-yes, drop_prefix-no, behind_suffix, suffix_len-front_no, flat_map-slice_split}
use Rattle.book_text.specs.Lines.{is_blank, is_colon, colons, before_colons, words_of_run, words_of}

-- a colon at the start of a run is a word of its own
words_of_run-colon : (run : List ℕ) → words_of_run (58 ∷ run) ≡ (58 ∷ []) ∷ words_of_run run
words_of_run-colon run = rw one-add refl

words_of_parts-colon : (parts : List (List ℕ)) → flat_map words_of_run (onto_first 58 parts) ≡ (58 ∷ []) ∷ flat_map words_of_run parts
words_of_parts-colon [] = refl
words_of_parts-colon (part ∷ parts) = ap (λ words. words ++ flat_map words_of_run parts) (words_of_run-colon part)

-- a colon at the start of a line is a word of its own
pub words_of-colon : (line : List ℕ) → words_of (58 ∷ line) ≡ (58 ∷ []) ∷ words_of line
words_of-colon line = words_of_parts-colon (slice_split is_blank line)

pub words_of-colons : (n : ℕ) (line : List ℕ) → words_of (replicate n 58 ++ line) ≡ colons n ++ words_of line
words_of-colons zero line = refl
words_of-colons (suc n) line = words_of-colon (replicate n 58 ++ line) ∙ ap (λ words. (58 ∷ []) ∷ words) (words_of-colons n line)

-- a blank at the start of a line is passed over
pub words_of-blank : (b : ℕ) (line : List ℕ) → is_blank b ≡ true → words_of (b ∷ line) ≡ words_of line
words_of-blank b line blank = rw blank refl

-- so are all blanks at its start
pub words_of-blanks : (line : List ℕ) → words_of line ≡ words_of (drop (prefix_len is_blank line) line)
words_of-blanks [] = refl
words_of-blanks (b ∷ line) =
    ⊎_elim (λ blank. words_of-blank b line blank ∙ words_of-blanks line ∙ sym (ap words_of (drop_prefix-yes is_blank b line blank)))
    (λ other. sym (ap words_of (drop_prefix-no is_blank b line other))) (cases_Bool (is_blank b))

-- the words of the run at a line's start come before those of the rest
pub words_of-run : (line : List ℕ) → words_of line ≡ words_of_run (before_first is_blank line) ++ words_of (drop (position_or_len is_blank line) line)
words_of-run line = flat_map-slice_split is_blank words_of_run refl line

-- a run that doesn't begin with a colon is one word and the colons behind it
pub words_of_run-word : (b : ℕ) (run : List ℕ) → is_colon b ≡ false → words_of_run (b ∷ run) ≡ before_colons (b ∷ run) ∷ colons (suffix_len is_colon (b ∷ run))
words_of_run-word b run other =
    let some : length (b ∷ run) - suffix_len is_colon (b ∷ run) ≡ suc (length run - suffix_len is_colon (b ∷ run)) =
    omega (arith, suffix_len-front_no is_colon b run other) in
    rw (prefix_len-no is_colon b run other, some) refl

-- the word that a line begins with, where it begins with neither a blank nor a colon
pub record FirstWord (line : List ℕ) (to : ℕ) : Type 0 where
  pub some : 0 < to
  pub within : to ≤ position_or_len is_blank line
  pub words : words_of line ≡ take to line ∷ words_of (drop to line)

-- where that word ends: before the colons of its run
abbrev pub word_end : List ℕ → ℕ
word_end line = position_or_len is_blank line - suffix_len is_colon (before_first is_blank line)

-- n is where the run ends, and k how many colons it ends with
words_of-split : (line : List ℕ) (n k : ℕ) → n ≤ length line → k ≤ n
    → words_of line ≡ words_of_run (take n line) ++ words_of (drop n line)
    → words_of_run (take n line) ≡ take (n - k) (take n line) ∷ colons k
    → drop (n - k) (take n line) ≡ replicate k 58
    → words_of line ≡ take (n - k) line ∷ words_of (drop (n - k) line)
words_of-split line n k within le all run_words colons_end =
    let same_word : take (n - k) (take n line) ≡ take (n - k) line = take-take (n - k) n line (omega arith) in
    let short : n - k ≤ length (take n line) = omega (arith, length-take-le n line within) in
    let left : drop (n - k) line ≡ replicate k 58 ++ drop n line =
    ap (drop (n - k)) (sym (take-append-drop n line)) ∙ drop-append-le (n - k) (take n line) (drop n line) short
    ∙ ap (λ end. end ++ drop n line) colons_end in
    all ∙ ap (λ words. words ++ words_of (drop n line)) (run_words ∙ ap (λ word. word ∷ colons k) same_word)
    ∙ ap (λ words. take (n - k) line ∷ words) (sym (ap words_of left ∙ words_of-colons k (drop n line)))

-- the run of a line that begins with neither a blank nor a colon
record FirstRun (line run : List ℕ) (n k : ℕ) : Type 0 where
  length_is : length run ≡ n
  some : k < n
  words : words_of_run run ≡ take (n - k) run ∷ colons k

first_run : (b : ℕ) (rest : List ℕ) → is_blank b ≡ false → is_colon b ≡ false
    → FirstRun (b ∷ rest) (before_first is_blank (b ∷ rest)) (position_or_len is_blank (b ∷ rest)) (suffix_len is_colon (before_first is_blank (b ∷ rest)))
first_run b rest no_blank no_colon =
    let line = b ∷ rest in let n = position_or_len is_blank line in let run = before_first is_blank line in let k = suffix_len is_colon run in
    let fails : ℕ → Bool = λ x. not (is_blank x) in
    let is_run : run ≡ b ∷ before_first is_blank rest = take_prefix-yes fails b rest (not_from_false (is_blank b) no_blank) in
    let length_is : length run ≡ n = length-take-le n line (prefix_len-le-length fails line) in
    let few : k ≤ length (before_first is_blank rest) =
    subst (λ (r : List ℕ). suffix_len is_colon r ≤ length (before_first is_blank rest)) (sym is_run) (suffix_len-front_no is_colon b _ no_colon) in
    let words : words_of_run run ≡ before_colons run ∷ colons k =
    subst (λ (r : List ℕ). words_of_run r ≡ before_colons r ∷ colons (suffix_len is_colon r)) (sym is_run) (words_of_run-word b _ no_colon) in
    record {
      length_is = length_is;
      some = omega (arith, few, ap length is_run, length_is);
      words = words ∙ ap (λ m. take (m - k) run ∷ colons k) length_is;
    }

first_word_cons : (b : ℕ) (rest : List ℕ) → is_blank b ≡ false → is_colon b ≡ false → FirstWord (b ∷ rest) (word_end (b ∷ rest))
first_word_cons b rest no_blank no_colon =
    let line = b ∷ rest in let n = position_or_len is_blank line in let run = before_first is_blank line in let k = suffix_len is_colon run in
    let r = first_run b rest no_blank no_colon in
    record {
      some = omega (arith, r.some);
      within = omega arith;
      words = words_of-split line n k (prefix_len-le-length (λ x. not (is_blank x)) line) (omega (arith, r.some)) (words_of-run line) r.words
          (ap (λ m. drop (m - k) run) (sym r.length_is) ∙ behind_suffix 58 run);
    }

pub first_word : (line rest : List ℕ) (b : ℕ) → line ≡ b ∷ rest → is_blank b ≡ false → is_colon b ≡ false → FirstWord line (word_end line)
first_word line rest b e no_blank no_colon = subst (λ (l : List ℕ). FirstWord l (word_end l)) (sym e) (first_word_cons b rest no_blank no_colon)

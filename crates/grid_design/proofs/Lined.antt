-- A line of words, written word by word.
use Rattle.std.proofs.Common.{◌≡◌, ℕ, zero, suc, ◌-◌, ◌≤◌, List, [], ◌∷◌, ◌++◌, length, get_or, take, drop, map, refl, sym, ◌∙◌, ap, append_assoc, arith}
use Rattle.std.specs.List.{flat_map}
use Rattle.std.proofs.lemmas.List.{append-nil}
use Rattle.std.proofs.lemmas.List.Folds.{flat_map-map}
use Rattle.book_text.specs.Lines.{spaced}
use Rattle.grid_design.specs.declared.line.Word.{Word}
use Rattle.grid_design.specs.Texts.{line_of}
use Rattle.grid_design.specs.Forms.Words.{word_text}

-- the first word, and then each other one behind a blank
spaced-cons : (word : List ℕ) (words : List (List ℕ)) → spaced (word ∷ words) ≡ word ++ flat_map (λ w. 32 ∷ w) words
spaced-cons word [] = sym (append-nil word)
spaced-cons word (next ∷ words) = ap (λ text. word ++ 32 ∷ text) (spaced-cons next words)

pub take_all : {A : Type 0} (n : ℕ) (xs : List A) → length xs ≤ n → take n xs ≡ xs
take_all zero [] h = refl
take_all (suc n) [] h = refl
take_all zero (x ∷ xs) h = absurd (omega arith)
take_all (suc n) (x ∷ xs) h = ap (λ ys. x ∷ ys) (take_all n xs (omega arith))

words_of : (word : Word) (words : List Word) → spaced (map word_text (word ∷ words)) ≡ word_text word ++ flat_map (λ w. 32 ∷ word_text w) words
words_of word words = spaced-cons (word_text word) (map word_text words) ∙ ap (λ text. word_text word ++ text) (flat_map-map (λ (w : List ℕ). 32 ∷ w) word_text words)

-- what is appended word by word, and then the line's end
pub line_written : (words : List Word) (word : Word) (k : ℕ) (old one now new : List ℕ) → 1 ≤ length words → one ≡ old ++ word_text (get_or words 0 word)
    → length (take (length words - 1) (drop 1 words)) ≤ k → now ≡ one ++ flat_map (λ w. 32 ∷ word_text w) (take k (take (length words - 1) (drop 1 words))) → new ≡ now ++ 10 ∷ []
    → new ≡ old ++ line_of (map word_text words)
line_written [] word k old one now new some first all others end = absurd (omega arith)
line_written (w ∷ ws) word k old one now new some first all others end =
    let rest : take k (take (length (w ∷ ws) - 1) ws) ≡ ws = take_all k (take (length (w ∷ ws) - 1) ws) all ∙ take_all (length (w ∷ ws) - 1) ws (omega arith) in
    let text : now ≡ old ++ spaced (map word_text (w ∷ ws)) =
    others ∙ ap (λ vs. one ++ flat_map (λ v. 32 ∷ word_text v) vs) rest ∙ ap (λ t. t ++ flat_map (λ v. 32 ∷ word_text v) ws) first
    ∙ append_assoc old (word_text w) (flat_map (λ v. 32 ∷ word_text v) ws) ∙ ap (λ t. old ++ t) (sym (words_of w ws)) in
    end ∙ ap (λ t. t ++ 10 ∷ []) text ∙ append_assoc old (spaced (map word_text (w ∷ ws))) (10 ∷ [])

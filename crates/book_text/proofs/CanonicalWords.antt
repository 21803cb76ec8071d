-- The canonical decimal of a number of millionths is one word of a line.
use Rattle.std.proofs.Common.{◌≡◌, ◌==◌, ℕ, ◌-◌, ◌%◌, ◌/◌, ◌^◌, ◌<◌, ◌≤◌, Bool, true, not, ◌&&◌, inr, suc, ℤ, pos, negsuc, neg_ℤ, ◌≤ℤ◌, List, [], ◌∷◌, length, get_or, refl, sym, subst, ◌∙◌, arith}
use Rattle.std.specs.Char.{is_ascii_digit}
use Rattle.std.specs.Fmt.{decimal}
use Rattle.std.specs.List.{list_all}
use Rattle.std.proofs.lemmas.Bool.{and_parts, and_from, cond_both, eqb-false, not-true, not_from_false, or_from, ne_eqb}
use Rattle.std.proofs.lemmas.Int.{ints}
use Rattle.std.proofs.lemmas.List.Elements.{All-weaker}
use Rattle.std.proofs.lemmas.List.Folds.{list_all-append}
use Rattle.std.proofs.lemmas.List.Sums.{AllPass-from_list_all, list_all-from_AllPass}
use Rattle.book_text.proofs.Canonical.{text_of, trimmed, whole-decimal, text-digit, canonical-pos}
use Rattle.book_text.proofs.Digits.{in_range-from_digit}
use Rattle.book_text.specs.Decimal.{are_digits, six_digits, without_trailing_zeros, fraction_text, canonical}
use Rattle.book_text.specs.Lines.{is_blank, is_colon, is_word_byte, IsWord}

-- a byte of a word other than a colon
abbrev is_plain : ℕ → Bool
is_plain b = is_word_byte b && not (is_colon b)

plain_word : (word : List ℕ) → 0 < length word → list_all is_plain word ≡ true → IsWord word
plain_word word some plain =
    let each = AllPass-from_list_all is_plain word plain in
    let no_colon : (k : ℕ) → k < length word → get_or word k 0 ≡ 58 → ⊥ =
    λ k lt. eqb-false _ 58 (not-true _ (and_parts (is_word_byte (get_or word k 0)) (not (is_colon (get_or word k 0))) (each k 0 lt)).1) in
    record {
      some = some;
      unbroken = list_all-from_AllPass is_word_byte word (λ k d lt. (and_parts (is_word_byte (get_or word k d)) (not (is_colon (get_or word k d))) (each k d lt)).0);
      colons = inr (no_colon 0 some, no_colon (length word - 1) (omega arith));
    }

digit_plain : (c : ℕ) → is_ascii_digit c ≡ true → is_plain c ≡ true
digit_plain c digit = let in_range = in_range-from_digit c digit in
    let no_blank = or_from _ _ (or_from _ _ (ne_eqb c 32 (λ e. omega (arith, in_range.0))) (ne_eqb c 9 (λ e. omega (arith, in_range.0)))) (ne_eqb c 13 (λ e. omega (arith, in_range.0))) in
    and_from (is_word_byte c) (not (is_colon c)) (not_from_false _ (or_from (is_blank c) (c == 10) no_blank (ne_eqb c 10 (λ e. omega (arith, in_range.0)))))
    (not_from_false (is_colon c) (ne_eqb c 58 (λ e. omega (arith, in_range.1))))

digits_plain : (digits : List ℕ) → are_digits digits ≡ true → list_all is_plain digits ≡ true
digits_plain digits all = list_all-from_AllPass is_plain digits
    (All-weaker (λ c. is_ascii_digit c ≡ true) (λ c. is_plain c ≡ true) digit_plain digits (AllPass-from_list_all is_ascii_digit digits all))

text_plain : (size : ℕ) → size ≤ 10 ^ 12 → list_all is_plain (text_of size) ≡ true
text_plain size le =
    let whole = decimal (size / 1000000) in let rest = size % 1000000 in let w = whole-decimal (size / 1000000) (omega arith) in let t = trimmed rest (omega arith) in
    let fraction : list_all is_plain (fraction_text rest) ≡ true =
    cond_both (rest == 0) [] (46 ∷ without_trailing_zeros (six_digits rest)) (λ text. list_all is_plain text ≡ true) (λ e. refl)
    (λ e. digits_plain (without_trailing_zeros (six_digits rest)) t.all) in
    list_all-append is_plain whole (fraction_text rest) ∙ and_from (list_all is_plain whole) (list_all is_plain (fraction_text rest)) (digits_plain whole w.digits) fraction

pub canonical-word : (z : ℤ) → neg_ℤ (pos (10 ^ 12)) ≤ℤ z → z ≤ℤ pos (10 ^ 12) → IsWord (canonical z)
canonical-word (pos n) low high = let le : n ≤ 10 ^ 12 = omega (arith, ints) in
    subst (λ (word : List ℕ). IsWord word) (sym (canonical-pos n)) (plain_word (text_of n) (text-digit n le).0 (text_plain n le))
canonical-word (negsuc n) low high = let le : suc n ≤ 10 ^ 12 = omega (arith, ints) in
    plain_word (45 ∷ text_of (suc n)) (omega arith) (text_plain (suc n) le)

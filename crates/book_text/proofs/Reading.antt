-- A number word read from its front: the digits, those behind a point, and what is left for an exponent.
use Rattle.std.proofs.Common.{◌≡◌, ◌==◌, ℕ, Bool, true, false, not, ◌&&◌, ◌||◌, suc, List, [], ◌∷◌, ◌++◌, length, drop, nat_lt, refl, sym, ap, subst, ◌∙◌, ⊎_elim, arith}
use Rattle.std.specs.Char.{is_ascii_digit}
use Rattle.std.specs.List.{list_any, prefix_len, before_first, after_first}
use Rattle.std.specs.Str.Parse.{without_leading_sign}
use Rattle.std.proofs.lemmas.Bool.{cases_Bool, both_ways, or_from, and_from, and_left, and_right, cond-false, eqb-true, ne_eqb}
use Rattle.std.proofs.lemmas.List.{append_assoc, take-append-drop}
use Rattle.std.proofs.lemmas.List.Folds.{list_all-append}
use Rattle.book_text.proofs.Prefixes.{take_prefix-yes, take_prefix-no, drop_prefix-yes, drop_prefix-no}
use Rattle.book_text.proofs.NumberWords.{IsFront, front-digits, front-point, end-none, end-mark, IsSplit, split, digits_in, bad-digits, bad-point}
use Rattle.book_text.specs.Decimal.{is_exponent_mark, is_point, are_digits}
use Rattle.book_text.specs.Forms.Parts.{leading_digits, behind_digits, leading_fraction, behind_fraction, is_exponent_part}

-- an optional sign and at least one digit
abbrev pub are_signed_digits : List ℕ → Bool
are_signed_digits bytes = are_digits (without_leading_sign bytes) && nat_lt 0 (length (without_leading_sign bytes))

-- the form of a number word without its sign
abbrev pub is_unsigned : List ℕ → Bool
is_unsigned word = are_digits (digits_in word) && (nat_lt 0 (length (digits_in word)) && (not (list_any is_exponent_mark word) || are_signed_digits (after_first is_exponent_mark word)))

-- a word without its sign has the form where its parts do, and then these are its parts
pub record IsReading (word whole fraction end : List ℕ) : Type 0 where
  pub form : is_unsigned word ≡ (nat_lt 0 (length (whole ++ fraction)) && is_exponent_part end)
  pub parts : is_exponent_part end ≡ true → IsSplit word whole fraction end

same_exponent : (none mark digits : Bool) → mark ≡ true → (not (not none) || digits) ≡ (none || (mark && digits))
same_exponent true mark digits e = refl
same_exponent false mark digits e = ap (λ b. b && digits) (sym e)

-- the end is nothing, or begins with a mark
good_reading : (word whole fraction end : List ℕ) → are_digits whole ≡ true → are_digits fraction ≡ true → IsSplit word whole fraction end
    → (not (not (length end == 0)) || are_signed_digits (drop 1 end)) ≡ is_exponent_part end → IsReading word whole fraction end
good_reading word whole fraction end digits more s same =
    let exponent = not (list_any is_exponent_mark word) || are_signed_digits (after_first is_exponent_mark word) in
    let digits_are : digits_in word ≡ whole ++ fraction =
    ap (λ xs. xs ++ after_first is_point (before_first is_exponent_mark word)) s.whole_is ∙ ap (λ xs. whole ++ xs) s.fraction_is in
    let all : are_digits (digits_in word) ≡ true =
    ap are_digits digits_are ∙ list_all-append is_ascii_digit whole fraction ∙ and_from (are_digits whole) (are_digits fraction) digits more in
    let exponent_is : exponent ≡ is_exponent_part end =
    ap (λ m. not m || are_signed_digits (after_first is_exponent_mark word)) s.marked
    ∙ ap (λ bytes. not (not (length end == 0)) || are_signed_digits bytes) s.exponent_is ∙ same in
    record {
      form = ap (λ b. b && (nat_lt 0 (length (digits_in word)) && exponent)) all
          ∙ ap (λ xs. nat_lt 0 (length xs) && exponent) digits_are ∙ ap (λ b. nat_lt 0 (length (whole ++ fraction)) && b) exponent_is;
      parts = λ e. s;
    }

bad_reading : (word whole fraction end : List ℕ) → are_digits (digits_in word) ≡ false → is_exponent_part end ≡ false → IsReading word whole fraction end
bad_reading word whole fraction end bad no_end = record {
  form = and_left _ _ bad ∙ sym (and_right (nat_lt 0 (length (whole ++ fraction))) (is_exponent_part end) no_end);
  parts = λ e. absurd (both_ways (is_exponent_part end) no_end e);
}

-- what is read of such a front and an end
pub reading_from : (front whole fraction end : List ℕ) → IsFront front whole fraction → are_digits whole ≡ true → are_digits fraction ≡ true
    → ((c : ℕ) (rest : List ℕ) → end ≡ c ∷ rest → is_exponent_mark c ≡ false → are_digits (digits_in (front ++ c ∷ rest)) ≡ false)
    → IsReading (front ++ end) whole fraction end
reading_from front whole fraction [] f digits more bad = good_reading (front ++ []) whole fraction [] digits more (split front whole fraction [] f end-none) refl
reading_from front whole fraction (c ∷ rest) f digits more bad = ⊎_elim
    (λ mark. good_reading (front ++ c ∷ rest) whole fraction (c ∷ rest) digits more (split front whole fraction (c ∷ rest) f (end-mark c rest mark))
    (same_exponent (suc (length rest) == 0) (is_exponent_mark c) (are_signed_digits rest) mark))
    (λ other. bad_reading (front ++ c ∷ rest) whole fraction (c ∷ rest) (bad c rest refl other)
    (or_from (suc (length rest) == 0) (is_exponent_mark c && are_signed_digits rest) (ne_eqb (suc (length rest)) 0 (λ e. omega arith)) (and_left (is_exponent_mark c) _ other)))
    (cases_Bool (is_exponent_mark c))

leading-digits : (bytes : List ℕ) → are_digits (leading_digits bytes) ≡ true
leading-digits [] = refl
leading-digits (c ∷ bytes) = ⊎_elim
    (λ digit. ap are_digits (take_prefix-yes is_ascii_digit c bytes digit) ∙ and_from (is_ascii_digit c) _ digit (leading-digits bytes))
    (λ other. ap are_digits (take_prefix-no is_ascii_digit c bytes other))
    (cases_Bool (is_ascii_digit c))

behind_digits-first : (bytes : List ℕ) (c : ℕ) (rest : List ℕ) → behind_digits bytes ≡ c ∷ rest → is_ascii_digit c ≡ false
behind_digits-first [] c rest e = cc
behind_digits-first (b ∷ bytes) c rest e = ⊎_elim
    (λ digit. behind_digits-first bytes c rest (sym (drop_prefix-yes is_ascii_digit b bytes digit) ∙ e))
    (λ other. same other (sym (drop_prefix-no is_ascii_digit b bytes other) ∙ e))
    (cases_Bool (is_ascii_digit b))
  where
    same : is_ascii_digit b ≡ false → b ∷ bytes ≡ c ∷ rest → is_ascii_digit c ≡ false
    same other e = let first : b ≡ c = cc in ap is_ascii_digit (sym first) ∙ other

reading-point : (whole rest : List ℕ) → are_digits whole ≡ true → IsReading (whole ++ 46 ∷ rest) whole (leading_digits rest) (behind_digits rest)
reading-point whole rest digits =
    let fraction = leading_digits rest in let end = behind_digits rest in let more = leading-digits rest in
    let word : (whole ++ 46 ∷ fraction) ++ end ≡ whole ++ 46 ∷ rest =
    append_assoc whole (46 ∷ fraction) end ∙ ap (λ bytes. whole ++ 46 ∷ bytes) (take-append-drop (prefix_len is_ascii_digit rest) rest) in
    subst (λ (bytes : List ℕ). IsReading bytes whole fraction end) word
    (reading_from (whole ++ 46 ∷ fraction) whole fraction end (front-point whole fraction digits more) digits more
    (λ c behind e no_mark. bad-point whole fraction c behind digits more (behind_digits-first rest c behind e) no_mark))

reading-rest : (whole rest : List ℕ) → are_digits whole ≡ true → ((c : ℕ) (bytes : List ℕ) → rest ≡ c ∷ bytes → is_ascii_digit c ≡ false)
    → IsReading (whole ++ rest) whole (leading_fraction rest) (behind_fraction rest)
reading-rest whole [] digits first = reading_from whole whole [] [] (front-digits whole digits) digits refl (λ c bytes e. absurd cc)
reading-rest whole (c ∷ rest) digits first = ⊎_elim
    (λ point. subst (λ (b : ℕ). IsReading (whole ++ b ∷ rest) whole (leading_fraction (b ∷ rest)) (behind_fraction (b ∷ rest))) (sym (eqb-true c 46 point))
    (reading-point whole rest digits))
    (λ other. let no_fraction : leading_fraction (c ∷ rest) ≡ [] = cond-false (is_point c) (leading_digits rest) [] other in
    let all : behind_fraction (c ∷ rest) ≡ c ∷ rest = cond-false (is_point c) (behind_digits rest) (c ∷ rest) other in
    subst (λ (fraction : List ℕ). IsReading (whole ++ c ∷ rest) whole fraction (behind_fraction (c ∷ rest))) (sym no_fraction)
    (subst (λ (end : List ℕ). IsReading (whole ++ c ∷ rest) whole [] end) (sym all)
    (reading_from whole whole [] (c ∷ rest) (front-digits whole digits) digits refl
    (λ d behind e no_mark. let same : c ≡ d = cc in bad-digits whole d behind digits (first d behind e) no_mark (ap is_point (sym same) ∙ other)))))
    (cases_Bool (is_point c))

-- what a word without its sign is, by what is read from its front
pub reading_of : (word : List ℕ) → IsReading word (leading_digits word) (leading_fraction (behind_digits word)) (behind_fraction (behind_digits word))
reading_of word = subst (λ (bytes : List ℕ). IsReading bytes (leading_digits word) (leading_fraction (behind_digits word)) (behind_fraction (behind_digits word)))
    (take-append-drop (prefix_len is_ascii_digit word) word)
    (reading-rest (leading_digits word) (behind_digits word) (leading-digits word) (behind_digits-first word))

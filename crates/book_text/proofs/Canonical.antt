-- The canonical decimal of a number of millionths is read as that number.
use Rattle.std.proofs.Common.{◌≡◌, ◌==◌, ℕ, ◌+◌, ◌-◌, ◌*◌, ◌/◌, ◌%◌, ◌^◌, ◌<◌, ◌≤◌, true, false, cond, suc, zero, ℤ, pos, negsuc, neg_ℤ, ◌≤ℤ◌, Ok, List, [], ◌∷◌, ◌++◌, length, drop, get_or, replicate, refl, sym, ap, add-zero, subst, ◌∙◌, ⊎_elim, arith}
use Rattle.std.specs.Char.{is_ascii_digit, digit_value}
use Rattle.std.specs.List.{suffix_len}
use Rattle.std.specs.Str.Parse.{digits_value, digits_value_after, starts_with_minus, without_leading_sign, without_leading_plus}
use Rattle.std.proofs.Math.Nat.{pow-suc, div-div-eq-div-mul, mul-div_cancel}
use Rattle.std.proofs.lemmas.Bool.{cases_Bool, and_from, and_parts, cond-true, cond-false, eqb-true, ne_eqb, le-leb, le-ltb}
use Rattle.std.specs.Prelude.{int_lt}
use Rattle.std.specs.Fmt.{decimal}
use Rattle.std.proofs.lemmas.Int.{ints}
use Rattle.std.proofs.lemmas.Fmt.{digits_decimal, digits_value-decimal, decimal_nonempty, length-decimal-le}
use Rattle.std.proofs.lemmas.Nat.{pow-add}
use Rattle.std.proofs.lemmas.Str.Parse.{IsDigitsTest, numerals_by_value}
use Rattle.std.proofs.lemmas.List.{append-nil, length-append, take-append-drop, length-take-le}
use Rattle.std.proofs.lemmas.List.Folds.{list_all-append}
use Rattle.std.proofs.lemmas.List.Sums.{suffix_len-le-length}
use Rattle.book_text.proofs.Digits.{in_range-from_digit, digit_value-ascii, digits_value_after-append}
use Rattle.book_text.proofs.MicroValue.{IsSized, sized, value-signed}
use Rattle.book_text.proofs.Reading.{IsReading, reading_from}
use Rattle.book_text.specs.Forms.Parts.{IsExponent}
use Rattle.book_text.proofs.NumberWords.{IsFront, front-digits, front-point}
use Rattle.book_text.proofs.Powers.{power_pos}
use Rattle.book_text.proofs.Prefixes.{behind_suffix}
use Rattle.book_text.specs.Decimal.{are_digits, digit_at, six_digits, is_zero_digit, without_trailing_zeros, fraction_text, canonical, micro_value}

-- digits behind a number
digits_value_after-shift : (n : ℕ) (digits : List ℕ) → digits_value_after 10 n digits ≡ n * 10 ^ length digits + digits_value 10 digits
digits_value_after-shift n [] = omega arith
digits_value_after-shift n (d ∷ digits) = let v = digit_value d in
    digits_value_after-shift (n * 10 + v) digits ∙ shift n v (10 ^ length digits) (digits_value 10 digits)
    ∙ ap (λ p. n * p + (v * 10 ^ length digits + digits_value 10 digits)) (sym (pow-suc 10 (length digits)))
    ∙ ap (λ k. n * 10 ^ suc (length digits) + k) (sym (digits_value_after-shift (0 * 10 + v) digits ∙ ap (λ k. k * 10 ^ length digits + digits_value 10 digits) (omega arith)))
  where
    shift : (n v p k : ℕ) → (n * 10 + v) * p + k ≡ n * (p * 10) + (v * p + k)
    shift n v p k = omega arith

zeros-value : (n k : ℕ) → digits_value_after 10 n (replicate k 48) ≡ n * 10 ^ k
zeros-value n zero = omega arith
zeros-value n (suc k) = zeros-value (n * 10 + 0) k ∙ shift n (10 ^ k) ∙ ap (λ p. n * p) (sym (pow-suc 10 k))
  where
    shift : (n p : ℕ) → (n * 10 + 0) * p ≡ n * (p * 10)
    shift n p = omega arith

is_digit : (rest power : ℕ) → is_ascii_digit (digit_at rest power) ≡ true
is_digit rest power = let d = digit_at rest power in let low : 48 ≤ d = omega arith in let high : d ≤ 57 = omega arith in
    and_from _ _ (le-leb 48 d low) (le-leb d 57 high)

digit_value-at : (rest power : ℕ) → digit_value (digit_at rest power) ≡ rest / power % 10
digit_value-at rest power = let less : digit_at rest power - 48 ≡ rest / power % 10 = omega arith in
    digit_value-ascii (digit_at rest power) (is_digit rest power) ∙ less

-- six digits are digits, and write the rest
six-digits : (rest : ℕ) → are_digits (six_digits rest) ≡ true
six-digits rest = and_from _ _ (is_digit rest 100000) (and_from _ _ (is_digit rest 10000) (and_from _ _ (is_digit rest 1000)
    (and_from _ _ (is_digit rest 100) (and_from _ _ (is_digit rest 10) (and_from _ _ (is_digit rest 1) refl)))))

six-value : (rest : ℕ) → rest < 1000000 → digits_value 10 (six_digits rest) ≡ rest
six-value rest small =
    let r1 = div-div-eq-div-mul rest 1 10 in let r2 = div-div-eq-div-mul rest 10 10 in let r3 = div-div-eq-div-mul rest 100 10 in
    let r4 = div-div-eq-div-mul rest 1000 10 in let r5 = div-div-eq-div-mul rest 10000 10 in
    omega (arith, digit_value-at rest 100000, digit_value-at rest 10000, digit_value-at rest 1000, digit_value-at rest 100, digit_value-at rest 10, digit_value-at rest 1)

-- the digits of a rest that isn't nothing, without zeros at the end
pub record IsFraction (rest : ℕ) (digits : List ℕ) : Type 0 where
  pub short : length digits ≤ 6
  pub all : are_digits digits ≡ true
  pub value : digits_value 10 digits * 10 ^ (6 - length digits) ≡ rest

pub trimmed : (rest : ℕ) → rest < 1000000 → IsFraction rest (without_trailing_zeros (six_digits rest))
trimmed rest small =
    let six = six_digits rest in let k = suffix_len is_zero_digit six in let digits = without_trailing_zeros six in
    let few : k ≤ 6 = suffix_len-le-length is_zero_digit six in
    let digits_length : length digits ≡ 6 - k = length-take-le (6 - k) six (omega arith) in
    let parts : digits ++ replicate k 48 ≡ six = ap (λ zeros. digits ++ zeros) (sym (behind_suffix 48 six)) ∙ take-append-drop (6 - k) six in
    let left : 6 - length digits ≡ k = omega arith in
    record {
      short = omega arith;
      all = (and_parts (are_digits digits) (are_digits (replicate k 48)) (sym (list_all-append is_ascii_digit digits (replicate k 48)) ∙ ap are_digits parts ∙ six-digits rest)).0;
      value = ap (λ n. digits_value 10 digits * 10 ^ n) left ∙ sym (zeros-value (digits_value 10 digits) k) ∙ sym (digits_value_after-append 0 digits (replicate k 48))
          ∙ ap (digits_value 10) parts ∙ six-value rest small;
    }

nothing : (rest : ℕ) → rest ≡ 0 → IsFraction rest []
nothing rest none = record { short = omega arith; all = refl; value = omega arith }

-- a text behind the digits before the point, with the digits that it has behind it
record HasFraction (whole : List ℕ) (rest : ℕ) (text : List ℕ) : Type 0 where
  fraction : List ℕ
  front : IsFront (whole ++ text) whole fraction
  more : IsFraction rest fraction
  short : length text ≤ 7

no_text : (whole : List ℕ) (rest : ℕ) → are_digits whole ≡ true → rest ≡ 0 → HasFraction whole rest []
no_text whole rest digits none = record {
  fraction = [];
  front = subst (λ (text : List ℕ). IsFront text whole []) (sym (append-nil whole)) (front-digits whole digits);
  more = nothing rest none;
  short = omega arith;
}

point_text : (whole : List ℕ) (rest : ℕ) → are_digits whole ≡ true → rest < 1000000 → HasFraction whole rest (46 ∷ without_trailing_zeros (six_digits rest))
point_text whole rest digits small = let t = trimmed rest small in record {
  fraction = without_trailing_zeros (six_digits rest);
  front = front-point whole (without_trailing_zeros (six_digits rest)) digits t.all;
  more = t;
  short = omega (arith, t.short);
}

has_fraction : (whole : List ℕ) (rest : ℕ) → are_digits whole ≡ true → rest < 1000000 → HasFraction whole rest (fraction_text rest)
has_fraction whole rest digits small = let digits' = 46 ∷ without_trailing_zeros (six_digits rest) in ⊎_elim
    (λ none. subst (λ (text : List ℕ). HasFraction whole rest text) (sym (cond-true (rest == 0) [] digits' none)) (no_text whole rest digits (eqb-true rest 0 none)))
    (λ some. subst (λ (text : List ℕ). HasFraction whole rest text) (sym (cond-false (rest == 0) [] digits' some)) (point_text whole rest digits small))
    (cases_Bool (rest == 0))

digits_test : IsDigitsTest (λ digits. are_digits digits ≡ true)
digits_test = record {
  empty = refl;
  parts = λ c digits h. let both = and_parts (is_ascii_digit c) (are_digits digits) h in (in_range-from_digit c both.0, both.1);
  more = λ c digits in_range h. and_from (is_ascii_digit c) (are_digits digits) (and_from _ _ (le-leb 48 c in_range.0) (le-leb c 57 in_range.1)) h;
}

-- the digits before the point
pub record IsWhole (number : ℕ) (whole : List ℕ) : Type 0 where
  pub digits : are_digits whole ≡ true
  pub some : 0 < length whole
  pub few : length whole ≤ 7
  pub value : digits_value 10 whole ≡ number

pub whole-decimal : (number : ℕ) → number ≤ 1000000 → IsWhole number (decimal number)
whole-decimal number le = let own = numerals_by_value _ digits_test in let small : number < 2 ^ 64 = omega arith in record {
  digits = digits_decimal own number small;
  some = decimal_nonempty number small;
  few = length-decimal-le 7 number (omega arith) (omega arith) small;
  value = digits_value-decimal own number small;
}

regroup : (whole value up down : ℕ) → (whole * down + value) * (up * down) ≡ (whole * (up * down) + value * up) * down
regroup whole value up down = omega arith

-- the quotient that such a decimal is worth
quotient : (whole value places rest : ℕ) → places ≤ 6 → value * 10 ^ (6 - places) ≡ rest → (whole * 10 ^ places + value) * 10 ^ 6 / 10 ^ places ≡ whole * 1000000 + rest
quotient whole value places rest le same =
    let up = 10 ^ (6 - places) in let down = 10 ^ places in let fits : 6 ≡ 6 - places + places = omega arith in
    let million : 10 ^ 6 ≡ up * down = ap (λ k. 10 ^ k) fits ∙ pow-add 10 (6 - places) places in
    ap (λ m. (whole * down + value) * m / down) million ∙ ap (λ k. k / down) (regroup whole value up down)
    ∙ mul-div_cancel (whole * (up * down) + value * up) (power_pos places)
    ∙ ap (λ m. whole * m + value * up) (sym million) ∙ ap (λ k. whole * 1000000 + k) same

abbrev pub text_of : ℕ → List ℕ
text_of size = decimal (size / 1000000) ++ fraction_text (size % 1000000)

-- a word that is such a text behind at most one byte of sign has that size
value_of : (size : ℕ) → size ≤ 10 ^ 12 → (word : List ℕ) → without_leading_sign word ≡ text_of size → length word ≤ 1 + length (text_of size) → IsSized word size
value_of size le word unsigned length_is =
    let whole = decimal (size / 1000000) in let rest = size % 1000000 in let text = text_of size in
    let w = whole-decimal (size / 1000000) (omega arith) in let f = has_fraction whole rest w.digits (omega arith) in
    let m = f.more in let places = length f.fraction in let value = digits_value 10 f.fraction in
    let short : length word ≤ 30 = omega (arith, length_is, length-append whole (fraction_text rest), w.few, f.short) in
    let reading = reading_from text whole f.fraction [] f.front w.digits m.all (λ c rest e. absurd cc) in
    let unsigned_reading : IsReading (without_leading_sign word) whole f.fraction [] =
    subst (λ (bytes : List ℕ). IsReading bytes whole f.fraction []) (append-nil text ∙ sym unsigned) reading in
    let no_exponent : IsExponent [] (record { right = 0; left = 0 }) =
    record { form = refl; right = refl; left = refl; right_small = omega arith; left_small = omega arith } in
    let number : digits_value 10 (whole ++ f.fraction) ≡ size / 1000000 * 10 ^ places + value =
    digits_value_after-append 0 whole f.fraction ∙ digits_value_after-shift (digits_value 10 whole) f.fraction
    ∙ ap (λ n. n * 10 ^ places + value) w.value in
    let all : size / 1000000 * 1000000 + rest ≡ size = omega arith in
    let worth : digits_value 10 (whole ++ f.fraction) * 10 ^ (6 + 0) / 10 ^ (places + 0) ≡ size =
    ap (λ n. n * 10 ^ (6 + 0) / 10 ^ (places + 0)) number ∙ ap (λ k. (size / 1000000 * 10 ^ places + value) * 10 ^ 6 / 10 ^ k) (add-zero places)
    ∙ quotient (size / 1000000) value places rest m.short m.value ∙ all in
    subst (λ (n : ℕ). IsSized word n) worth (sized word whole f.fraction [] (record { right = 0; left = 0 }) unsigned_reading short (omega (arith, w.some)) no_exponent)

-- digits are behind no sign
no_sign : (bytes : List ℕ) → 0 < length bytes → is_ascii_digit (get_or bytes 0 0) ≡ true → (starts_with_minus bytes ≡ false) × (without_leading_sign bytes ≡ bytes)
no_sign bytes some digit =
    let in_range = in_range-from_digit (get_or bytes 0 0) digit in
    let no_minus : starts_with_minus bytes ≡ false = ne_eqb (get_or bytes 0 0) 45 (λ e. omega (arith, in_range.0)) in
    let no_plus : (get_or bytes 0 0 == 43) ≡ false = ne_eqb (get_or bytes 0 0) 43 (λ e. omega (arith, in_range.0)) in
    (no_minus, cond-false (starts_with_minus bytes) (drop 1 bytes) (without_leading_plus bytes) no_minus ∙ ap (λ b. drop (cond b 1 0) bytes) no_plus)

pub text-digit : (size : ℕ) → size ≤ 10 ^ 12 → (0 < length (text_of size)) × (is_ascii_digit (get_or (text_of size) 0 0) ≡ true)
text-digit size le = let w = whole-decimal (size / 1000000) (omega arith) in first (decimal (size / 1000000)) (fraction_text (size % 1000000)) w.some w.digits
  where
    first : (whole more : List ℕ) → 0 < length whole → are_digits whole ≡ true → (0 < length (whole ++ more)) × (is_ascii_digit (get_or (whole ++ more) 0 0) ≡ true)
    first [] more some digits = absurd (omega arith)
    first (c ∷ whole) more some digits = (omega arith, (and_parts (is_ascii_digit c) (are_digits whole) digits).0)

pub canonical-pos : (n : ℕ) → canonical (pos n) ≡ text_of n
canonical-pos n = ap (λ sign. sign ++ text_of n) (cond-false (int_lt (pos n) (pos 0)) (45 ∷ []) [] (le-ltb n 0 (omega arith)))

pub canonical-reads_back : (z : ℤ) → neg_ℤ (pos (10 ^ 12)) ≤ℤ z → z ≤ℤ pos (10 ^ 12) → micro_value (canonical z) ≡ Ok z
canonical-reads_back (pos n) low high =
    let le : n ≤ 10 ^ 12 = omega (arith, ints) in let digit = text-digit n le in let plain = no_sign (text_of n) digit.0 digit.1 in
    ap micro_value (canonical-pos n) ∙ value-signed (text_of n) false n n (value_of n le (text_of n) plain.1 (omega arith)) le (sym plain.0) refl
canonical-reads_back (negsuc n) low high = let le : suc n ≤ 10 ^ 12 = omega (arith, ints) in
    value-signed (45 ∷ text_of (suc n)) true (suc n) (suc n) (value_of (suc n) le (45 ∷ text_of (suc n)) refl (omega arith)) le refl refl

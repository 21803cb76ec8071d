-- What a number word is worth, by what is read from its front.
use Rattle.std.proofs.Common.{◌≡◌, ℕ, ◌+◌, ◌*◌, ◌/◌, ◌^◌, ◌<◌, ◌≤◌, Bool, true, false, List, ◌++◌, length, drop, ℤ, pos, neg_ℤ, Ok, Err, Result, nat_le, nat_lt, if◌then◌else◌, sym, ap, subst, ◌∙◌, arith}
use Rattle.std.specs.Str.Parse.{digits_value, starts_with_minus, without_leading_sign}
use Rattle.std.proofs.lemmas.Bool.{and_from, and_left, and_right, cond-true, cond-false, le-leb, lt-ltb, le-ltb, leb-true, false_from_ne_true}
use Rattle.std.proofs.lemmas.List.{length-append}
use Rattle.book_text.proofs.NumberWords.{IsSplit}
use Rattle.book_text.proofs.Reading.{IsReading, reading_of, is_unsigned}
use Rattle.book_text.specs.declared.decimal.Places.{Places}
use Rattle.book_text.specs.declared.number.NumberFault.{NumberFault}
use Rattle.book_text.specs.declared.number.NumberFault.TheVariants.{NotNumber, OutOfRange}
use Rattle.book_text.specs.Decimal.{is_number, micro_size, micro_value, fraction_digits, exponent}
use Rattle.book_text.specs.Forms.Parts.{leading_digits, behind_digits, leading_fraction, behind_fraction, is_exponent_part, exponent_size, IsExponent}

-- the word without its sign, and its parts
abbrev pub whole_of : List ℕ → List ℕ
whole_of word = leading_digits (without_leading_sign word)

abbrev pub fraction_of : List ℕ → List ℕ
fraction_of word = leading_fraction (behind_digits (without_leading_sign word))

abbrev pub end_of : List ℕ → List ℕ
end_of word = behind_fraction (behind_digits (without_leading_sign word))

reading : (word : List ℕ) → IsReading (without_leading_sign word) (whole_of word) (fraction_of word) (end_of word)
reading word = reading_of (without_leading_sign word)

value-no_number : (word : List ℕ) → is_number word ≡ false → micro_value word ≡ Err NotNumber
value-no_number word e = cond-false (is_number word) _ (Err NotNumber) e

-- no digits
value-no_digits : (word : List ℕ) → length (whole_of word) + length (fraction_of word) ≡ 0 → micro_value word ≡ Err NotNumber
value-no_digits word none = let form = IsReading.form (reading word) in
    let empty : nat_lt 0 (length (whole_of word ++ fraction_of word)) ≡ false = le-ltb 0 _ (omega (arith, length-append (whole_of word) (fraction_of word))) in
    value-no_number word (and_right (nat_le (length word) 30) (is_unsigned (without_leading_sign word)) (form ∙ and_left _ (is_exponent_part (end_of word)) empty))

-- no exponent behind the digits, but other bytes
value-no_exponent : (word : List ℕ) → is_exponent_part (end_of word) ≡ false → micro_value word ≡ Err NotNumber
value-no_exponent word none = let form = IsReading.form (reading word) in
    value-no_number word (and_right (nat_le (length word) 30) (is_unsigned (without_leading_sign word))
    (form ∙ and_right (nat_lt 0 (length (whole_of word ++ fraction_of word))) (is_exponent_part (end_of word)) none))

-- the size of a number by its parts, the last of them what stands behind an exponent's mark
abbrev size_by : List ℕ → List ℕ → List ℕ → ℕ
size_by whole fraction exponent = digits_value 10 (whole ++ fraction)
    * 10 ^ (6 + (if starts_with_minus exponent then 0 else digits_value 10 (without_leading_sign exponent)))
    / 10 ^ (length fraction + (if starts_with_minus exponent then digits_value 10 (without_leading_sign exponent) else 0))

size_of-parts : (word whole fraction end : List ℕ) → IsSplit (without_leading_sign word) whole fraction end → micro_size word ≡ size_by whole fraction (drop 1 end)
size_of-parts word whole fraction end s =
    ap (λ xs. size_by xs (fraction_digits word) (exponent word)) s.whole_is ∙ ap (λ xs. size_by whole xs (exponent word)) s.fraction_is
    ∙ ap (size_by whole fraction) s.exponent_is

-- the word is a number with this size
pub record IsSized (word : List ℕ) (size : ℕ) : Type 0 where
  pub form : is_number word ≡ true
  pub size_is : micro_size word ≡ size

-- a word whose parts without its sign are these
pub sized : (word whole fraction end : List ℕ) (places : Places) → IsReading (without_leading_sign word) whole fraction end → length word ≤ 30
    → 0 < length whole + length fraction → IsExponent end places
    → IsSized word (digits_value 10 (whole ++ fraction) * 10 ^ (6 + places.right) / 10 ^ (length fraction + places.left))
sized word whole fraction end places r short some exponent = let s = r.parts exponent.form in let number = digits_value 10 (whole ++ fraction) in
    let digits : nat_lt 0 (length (whole ++ fraction)) ≡ true = lt-ltb 0 _ (omega (arith, some, length-append whole fraction)) in
    record {
      form = and_from (nat_le (length word) 30) (is_unsigned (without_leading_sign word)) (le-leb (length word) 30 short)
          (r.form ∙ and_from (nat_lt 0 (length (whole ++ fraction))) (is_exponent_part end) digits exponent.form);
      size_is = size_of-parts word whole fraction end s
          ∙ ap (λ k. number * 10 ^ (6 + k) / 10 ^ (length fraction + (if starts_with_minus (drop 1 end) then exponent_size end else 0))) (sym exponent.right)
          ∙ ap (λ k. number * 10 ^ (6 + places.right) / 10 ^ (length fraction + k)) (sym exponent.left);
    }

-- what was read of a word without its sign
pub record IsMantissa (unsigned : List ℕ) (number whole fraction : ℕ) (rest : List ℕ) : Type 0 where
  pub number_is : number ≡ digits_value 10 (leading_digits unsigned ++ leading_fraction (behind_digits unsigned))
  pub whole_is : whole ≡ length (leading_digits unsigned)
  pub fraction_is : fraction ≡ length (leading_fraction (behind_digits unsigned))
  pub rest_is : rest ≡ behind_fraction (behind_digits unsigned)

module _ (word unsigned : List ℕ) (number whole fraction : ℕ) (rest : List ℕ) (same : unsigned ≡ without_leading_sign word) (read : IsMantissa unsigned number whole fraction rest) where
  mantissa : IsMantissa (without_leading_sign word) number whole fraction rest
  mantissa = subst (λ (bytes : List ℕ). IsMantissa bytes number whole fraction rest) same read

  pub read-no_digits : whole + fraction ≡ 0 → micro_value word ≡ Err NotNumber
  read-no_digits none = let m = mantissa in value-no_digits word (omega (arith, none, m.whole_is, m.fraction_is))

  pub read-no_exponent : is_exponent_part rest ≡ false → micro_value word ≡ Err NotNumber
  read-no_exponent none = value-no_exponent word (ap is_exponent_part (sym (IsMantissa.rest_is mantissa)) ∙ none)

  pub read-sized : (places : Places) → length word ≤ 30 → (whole + fraction ≡ 0 → ⊥) → IsExponent rest places
      → IsSized word (number * 10 ^ (6 + places.right) / 10 ^ (fraction + places.left))
  read-sized places short some exponent = let m = mantissa in
      let exponent' = subst (λ (bytes : List ℕ). IsExponent bytes places) m.rest_is exponent in
      rw (m.number_is, m.fraction_is) (sized word (whole_of word) (fraction_of word) (end_of word) places (reading word) short (omega (arith, some, m.whole_is, m.fraction_is)) exponent')

-- the value of a number of this size
abbrev value_at : List ℕ → ℕ → Result ℤ NumberFault
value_at word size = if nat_le size (10 ^ 12) then Ok (if starts_with_minus word then neg_ℤ (pos size) else pos size) else Err OutOfRange

value-in_range : (word : List ℕ) (size : ℕ) → IsSized word size → size ≤ 10 ^ 12 → micro_value word ≡ Ok (if starts_with_minus word then neg_ℤ (pos size) else pos size)
value-in_range word size sized le =
    cond-true (is_number word) (value_at word (micro_size word)) (Err NotNumber) sized.form ∙ ap (value_at word) sized.size_is
    ∙ cond-true (nat_le size (10 ^ 12)) (Ok (if starts_with_minus word then neg_ℤ (pos size) else pos size)) (Err OutOfRange) (le-leb size (10 ^ 12) le)

pub value-signed : (word : List ℕ) (minus : Bool) (size n : ℕ) → IsSized word n → n ≤ 10 ^ 12 → minus ≡ starts_with_minus word → size ≡ n
    → micro_value word ≡ Ok (if minus then neg_ℤ (pos size) else pos size)
value-signed word minus size n sized le sign same = value-in_range word n sized le
    ∙ ap (λ b. Ok (if b then neg_ℤ (pos n) else pos n)) (sym sign) ∙ ap (λ k. Ok (if minus then neg_ℤ (pos k) else pos k)) (sym same)

pub value-out_of_range : (word : List ℕ) (size : ℕ) → IsSized word size → (size ≤ 10 ^ 12 → ⊥) → micro_value word ≡ Err OutOfRange
value-out_of_range word size sized far =
    cond-true (is_number word) (value_at word (micro_size word)) (Err NotNumber) sized.form ∙ ap (value_at word) sized.size_is
    ∙ cond-false (nat_le size (10 ^ 12)) (Ok (if starts_with_minus word then neg_ℤ (pos size) else pos size)) (Err OutOfRange)
    (false_from_ne_true (nat_le size (10 ^ 12)) (λ e. far (leb-true size (10 ^ 12) e)))

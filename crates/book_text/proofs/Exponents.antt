-- The bytes behind a mantissa that begin with e or E.
use Rattle.std.proofs.Common.{◌≡◌, ◌==◌, ℕ, ◌^◌, ◌<◌, ◌≤◌, ◌-◌, Bool, true, false, ◌&&◌, ◌||◌, cond, List, length, take, drop, get_or, nat_lt, sym, ap, ◌∙◌, arith}
use Rattle.std.specs.Str.Parse.{digits_value, starts_with_minus, without_leading_sign, without_leading_plus}
use Rattle.std.proofs.lemmas.Bool.{and_from, and_left, cond_both, cond-true, cond-false, lt-ltb, ne_eqb}
use Rattle.std.proofs.lemmas.List.{length-drop, take_rest}
use Rattle.book_text.proofs.Digits.{all_digits, not_all_digits}
use Rattle.book_text.specs.Decimal.{is_exponent_mark, are_digits}
use Rattle.book_text.specs.Forms.Parts.{leading_digits, behind_digits, is_exponent_part, exponent_size, IsExponent}

pub length-without_leading_sign : (bytes : List ℕ) → length (without_leading_sign bytes) ≤ length bytes
length-without_leading_sign bytes = cond_both (starts_with_minus bytes) (drop 1 bytes) (without_leading_plus bytes) (λ xs. length xs ≤ length bytes)
    (λ e. omega (arith, length-drop 1 bytes)) (λ e. omega (arith, length-drop (cond (get_or bytes 0 0 == 43) 1 0) bytes))

marked : (none mark digits : Bool) → none ≡ false → mark ≡ true → (none || (mark && digits)) ≡ digits
marked none mark digits some begun = ap (λ b. b || (mark && digits)) some ∙ ap (λ b. b && digits) begun

-- e or E stands first, and then an optional sign and these digits
pub record IsMarked (bytes digits : List ℕ) : Type 0 where
  pub some : 0 < length bytes
  pub mark : is_exponent_mark (get_or bytes 0 0) ≡ true
  pub unsigned : digits ≡ without_leading_sign (drop 1 bytes)

pub is_marked : (bytes digits : List ℕ) → 0 < length bytes → is_exponent_mark (get_or bytes 0 0) ≡ true
    → digits ≡ without_leading_sign (take (length bytes - 1) (drop 1 bytes)) → IsMarked bytes digits
is_marked bytes digits some mark unsigned = record { some = some; mark = mark; unsigned = unsigned ∙ ap without_leading_sign (take_rest bytes 1) }

module _ (bytes digits : List ℕ) (e : IsMarked bytes digits) where
  exponent_part_is : is_exponent_part bytes ≡ (are_digits digits && nat_lt 0 (length digits))
  exponent_part_is = let signed = without_leading_sign (drop 1 bytes) in
      marked (length bytes == 0) (is_exponent_mark (get_or bytes 0 0)) (are_digits signed && nat_lt 0 (length signed)) (ne_eqb (length bytes) 0 (λ n. omega (arith, e.some))) e.mark
      ∙ ap (λ xs. are_digits xs && nat_lt 0 (length xs)) (sym e.unsigned)

  pub no_exponent : 0 < length (behind_digits digits) → is_exponent_part bytes ≡ false
  no_exponent more = exponent_part_is ∙ and_left (are_digits digits) (nat_lt 0 (length digits)) (not_all_digits digits more)

  exponent_form : 0 < length digits → length (behind_digits digits) ≡ 0 → is_exponent_part bytes ≡ true
  exponent_form some none = exponent_part_is ∙ and_from (are_digits digits) (nat_lt 0 (length digits)) (all_digits digits none).0 (lt-ltb 0 (length digits) some)

  size_is : (number : ℕ) → length (behind_digits digits) ≡ 0 → number ≡ digits_value 10 (leading_digits digits) → number ≡ exponent_size bytes
  size_is number none read = read ∙ ap (digits_value 10) ((all_digits digits none).1 ∙ e.unsigned)

  module _ (number : ℕ) (some : 0 < length digits) (none : length (behind_digits digits) ≡ 0) (read : number ≡ digits_value 10 (leading_digits digits)) (small : number < 10 ^ 30) where
    pub exponent-left : starts_with_minus (drop 1 bytes) ≡ true → IsExponent bytes (record { right = 0; left = number })
    exponent-left minus = record {
      form = exponent_form some none;
      right = sym (cond-true (starts_with_minus (drop 1 bytes)) 0 (exponent_size bytes) minus);
      left = size_is number none read ∙ sym (cond-true (starts_with_minus (drop 1 bytes)) (exponent_size bytes) 0 minus);
      right_small = omega arith;
      left_small = small;
    }

    pub exponent-right : starts_with_minus (drop 1 bytes) ≡ false → IsExponent bytes (record { right = number; left = 0 })
    exponent-right plus = record {
      form = exponent_form some none;
      right = size_is number none read ∙ sym (cond-false (starts_with_minus (drop 1 bytes)) 0 (exponent_size bytes) plus);
      left = sym (cond-false (starts_with_minus (drop 1 bytes)) (exponent_size bytes) 0 plus);
      right_small = small;
      left_small = omega arith;
    }

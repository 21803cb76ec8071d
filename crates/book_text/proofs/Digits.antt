-- Decimal digits: a digit's value, and one more digit of a number.
use Rattle.std.proofs.Common.{◌≡◌, ℕ, ◌+◌, ◌-◌, ◌*◌, ◌^◌, ◌<◌, ◌≤◌, true, false, suc, List, [], ◌∷◌, ◌++◌, length, take, drop, get_or, refl, sym, ap, subst, ◌∙◌, ⊎_elim, eq-eqb, arith}
use Rattle.std.specs.Char.{is_ascii_digit, digit_value}
use Rattle.std.specs.Int.{IsInRange}
use Rattle.std.proofs.Math.Nat.{pow-suc, mul-le-mul_left}
use Rattle.std.specs.Str.Parse.{digits_value, digits_value_after}
use Rattle.std.proofs.lemmas.Bool.{cases_Bool, and_parts, and_from, and_left, and_right, cond-true, leb-true}
use Rattle.std.proofs.lemmas.Int.Digits.{digits_value_more}
use Rattle.std.proofs.lemmas.List.{take_all, take_rest}
use Rattle.std.proofs.lemmas.Str.{digit_value_digit}
use Rattle.book_text.proofs.Powers.{power_pos}
use Rattle.book_text.proofs.Prefixes.{take_prefix-yes, drop_prefix-yes, drop_prefix-no}
use Rattle.book_text.specs.Decimal.{are_digits, is_point}
use Rattle.book_text.specs.Forms.Parts.{leading_digits, behind_digits, leading_fraction}

pub in_range-from_digit : (c : ℕ) → is_ascii_digit c ≡ true → IsInRange 48 57 c
in_range-from_digit c e = let parts = and_parts _ _ e in (leb-true 48 c parts.0, leb-true c 57 parts.1)

pub digit_value-ascii : (c : ℕ) → is_ascii_digit c ≡ true → digit_value c ≡ c - 48
digit_value-ascii c e = omega (arith, digit_value_digit c (in_range-from_digit c e))

pub digits_value-more : (word : List ℕ) (i : ℕ) → i < length word → is_ascii_digit (get_or word i 0) ≡ true
    → digits_value 10 (take (i + 1) word) ≡ digits_value 10 (take i word) * 10 + (get_or word i 0 - 48)
digits_value-more word i lt e = digits_value_more 10 word i lt ∙ ap (λ d. digits_value 10 (take i word) * 10 + d) (digit_value-ascii _ e)

leading_digits-yes : (b : ℕ) (rest : List ℕ) → is_ascii_digit b ≡ true → leading_digits (b ∷ rest) ≡ b ∷ leading_digits rest
leading_digits-yes b rest e = take_prefix-yes is_ascii_digit b rest e

-- one digit of the bytes that are left was read behind the digits of a number
pub record IsRead (number digit : ℕ) (bytes left : List ℕ) : Type 0 where
  pub value : digits_value_after 10 number (leading_digits bytes) ≡ digits_value_after 10 (number * 10 + digit) (leading_digits left)
  pub behind : behind_digits bytes ≡ behind_digits left
  pub room : (number * 10 + digit + 1) * 10 ^ length left ≤ (number + 1) * 10 ^ length bytes
  pub small : number * 10 + digit < (number + 1) * 10 ^ length bytes

more_room : (n d power : ℕ) → d ≤ 9 → (n * 10 + d + 1) * power ≤ (n + 1) * (power * 10)
more_room n d power le = let fits : n * 10 + d + 1 ≤ (n + 1) * 10 = omega arith in omega (arith, mul-le-mul_left power fits)

read_first : (number b : ℕ) (rest : List ℕ) → is_ascii_digit b ≡ true → IsRead number (b - 48) (b ∷ rest) rest
read_first number b rest e =
    let d = digit_value-ascii b e in let power = 10 ^ length rest in let in_range = in_range-from_digit b e in
    let digit : b - 48 ≤ 9 = omega (arith, in_range.1) in
    let room : (number * 10 + (b - 48) + 1) * power ≤ (number + 1) * 10 ^ suc (length rest) =
    rw (pow-suc 10 (length rest)) (more_room number (b - 48) power digit) in
    let some = power_pos (length rest) in
    record {
      value = ap (digits_value_after 10 number) (leading_digits-yes b rest e) ∙ ap (λ digit. digits_value_after 10 (number * 10 + digit) (leading_digits rest)) d;
      behind = drop_prefix-yes is_ascii_digit b rest e;
      room = room;
      small = omega (arith, room, mul-le-mul_left (number * 10 + (b - 48) + 1) some);
    }

pub read-more : (number : ℕ) (bytes : List ℕ) → 1 ≤ length bytes → is_ascii_digit (get_or bytes 0 0) ≡ true
    → IsRead number (get_or bytes 0 0 - 48) bytes (take (length bytes - 1) (drop 1 bytes))
read-more number [] some e = absurd (omega arith)
read-more number (b ∷ rest) some e = let all : take (suc (length rest) - 1) rest ≡ rest = take_all (suc (length rest) - 1) rest (omega arith) in
    subst (λ (left : List ℕ). IsRead number (b - 48) (b ∷ rest) left) (sym all) (read_first number b rest e)

-- the digits of one list behind those of another
pub digits_value_after-append : (n : ℕ) (xs ys : List ℕ) → digits_value_after 10 n (xs ++ ys) ≡ digits_value_after 10 (digits_value_after 10 n xs) ys
digits_value_after-append n [] ys = refl
digits_value_after-append n (x ∷ xs) ys = digits_value_after-append (n * 10 + digit_value x) xs ys

pub small-from_room : (n k : ℕ) → (n + 1) * 10 ^ k ≤ 10 ^ 30 → n < 10 ^ 30
small-from_room n k room = let some = power_pos k in omega (arith, room, mul-le-mul_left (n + 1) some)

-- digits and nothing else, or something behind them
pub all_digits : (bytes : List ℕ) → length (behind_digits bytes) ≡ 0 → (are_digits bytes ≡ true) × (leading_digits bytes ≡ bytes)
all_digits [] e = (refl, refl)
all_digits (c ∷ bytes) e = ⊎_elim
    (λ digit. let rest = all_digits bytes (ap length (sym (drop_prefix-yes is_ascii_digit c bytes digit)) ∙ e) in
    (and_from (is_ascii_digit c) (are_digits bytes) digit rest.0, leading_digits-yes c bytes digit ∙ ap (λ xs. c ∷ xs) rest.1))
    (λ other. let some = ap length (drop_prefix-no is_ascii_digit c bytes other) in absurd (omega (arith, some, e)))
    (cases_Bool (is_ascii_digit c))

pub not_all_digits : (bytes : List ℕ) → 0 < length (behind_digits bytes) → are_digits bytes ≡ false
not_all_digits [] some = absurd (omega arith)
not_all_digits (c ∷ bytes) some = ⊎_elim
    (λ digit. and_right (is_ascii_digit c) (are_digits bytes) (not_all_digits bytes (omega (arith, ap length (drop_prefix-yes is_ascii_digit c bytes digit), some))))
    (λ other. and_left (is_ascii_digit c) (are_digits bytes) other)
    (cases_Bool (is_ascii_digit c))

pub leading_fraction-point : (bytes : List ℕ) → get_or bytes 0 0 ≡ 46 → leading_fraction bytes ≡ leading_digits (take (length bytes - 1) (drop 1 bytes))
leading_fraction-point bytes point = cond-true (is_point (get_or bytes 0 0)) (leading_digits (drop 1 bytes)) [] (eq-eqb _ 46 point)
    ∙ ap leading_digits (sym (take_rest bytes 1))

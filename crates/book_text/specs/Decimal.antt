-- Number words, their values in millionths, and the canonical decimal of a number of millionths.
use Rattle.std.specs.Prelude.{ℕ, ◌+◌, ◌-◌, ◌*◌, ◌/◌, ◌%◌, ◌^◌, Bool, not, ◌&&◌, ◌||◌, ◌==◌, List, [], ◌∷◌, ◌++◌, length, take, ℤ, pos, neg_ℤ, nat_abs, int_lt, decimal, Result, Ok, Err, nat_le, nat_lt, if◌then◌else◌}
use Rattle.std.specs.List.{list_all, list_any, before_first, after_first, suffix_len}
use Rattle.std.specs.Char.{is_ascii_digit}
use Rattle.std.specs.Str.Parse.{digits_value, starts_with_minus, without_leading_sign}
use Rattle.book_text.specs.declared.number.TheConstants.{MOST_NUMBER_BYTES}
use Rattle.book_text.specs.declared.number.NumberFault.{NumberFault}
use Rattle.book_text.specs.declared.number.NumberFault.TheVariants.{NotNumber, OutOfRange}

-- e or E
abbrev pub is_exponent_mark : ℕ → Bool
is_exponent_mark b = (b == 101) || (b == 69)

abbrev pub is_point : ℕ → Bool
is_point b = b == 46

-- what stands behind the sign and before the exponent's mark
abbrev pub mantissa : List ℕ → List ℕ
mantissa word = before_first is_exponent_mark (without_leading_sign word)

-- the digits before the point
abbrev pub whole_digits : List ℕ → List ℕ
whole_digits word = before_first is_point (mantissa word)

-- the digits behind the point, none where there is no point
abbrev pub fraction_digits : List ℕ → List ℕ
fraction_digits word = after_first is_point (mantissa word)

abbrev pub has_exponent : List ℕ → Bool
has_exponent word = list_any is_exponent_mark (without_leading_sign word)

-- what stands behind the exponent's mark, with its sign; nothing where there is no mark
abbrev pub exponent : List ℕ → List ℕ
exponent word = after_first is_exponent_mark (without_leading_sign word)

abbrev pub exponent_digits : List ℕ → List ℕ
exponent_digits word = without_leading_sign (exponent word)

-- there are digits and nothing else
abbrev pub are_digits : List ℕ → Bool
are_digits digits = list_all is_ascii_digit digits

-- A number word has a bounded number of bytes: an optional sign; digits with at most one point among, before or after them, and at
-- least one digit; then optionally e or E, an optional sign, and at least one digit.
abbrev pub is_number : List ℕ → Bool
is_number word = nat_le (length word) MOST_NUMBER_BYTES
    && (are_digits (whole_digits word ++ fraction_digits word)
    && (nat_lt 0 (length (whole_digits word ++ fraction_digits word))
    && (not (has_exponent word) || (are_digits (exponent_digits word) && nat_lt 0 (length (exponent_digits word))))))

-- how many places the exponent moves the point to the right, and to the left
abbrev pub places_right : List ℕ → ℕ
places_right word = if starts_with_minus (exponent word) then 0 else digits_value 10 (exponent_digits word)

abbrev pub places_left : List ℕ → ℕ
places_left word = if starts_with_minus (exponent word) then digits_value 10 (exponent_digits word) else 0

-- The size of a number word's value in millionths: a quotient of whole numbers, with the rest dropped.
abbrev pub micro_size : List ℕ → ℕ
micro_size word = digits_value 10 (whole_digits word ++ fraction_digits word) * 10 ^ (6 + places_right word) / 10 ^ (length (fraction_digits word) + places_left word)

-- The value of a number word in millionths, dropped towards zero, or what is wrong with the word.
abbrev pub micro_value : List ℕ → Result ℤ NumberFault
micro_value word = if is_number word then (if nat_le (micro_size word) (10 ^ 12) then Ok (if starts_with_minus word then neg_ℤ (pos (micro_size word)) else pos (micro_size word)) else Err OutOfRange) else Err NotNumber

-- the digit of a rest of millionths at the place of the given power of ten
abbrev pub digit_at : ℕ → ℕ → ℕ
digit_at rest power = 48 + rest / power % 10

-- six digits, with zeros in front
abbrev pub six_digits : ℕ → List ℕ
six_digits rest = digit_at rest 100000 ∷ digit_at rest 10000 ∷ digit_at rest 1000 ∷ digit_at rest 100 ∷ digit_at rest 10 ∷ digit_at rest 1 ∷ []

abbrev pub is_zero_digit : ℕ → Bool
is_zero_digit b = b == 48

abbrev pub without_trailing_zeros : List ℕ → List ℕ
without_trailing_zeros digits = take (length digits - suffix_len is_zero_digit digits) digits

-- the point and the digits of the rest without trailing zeros, nothing where the rest is 0
abbrev pub fraction_text : ℕ → List ℕ
fraction_text rest = if rest == 0 then [] else 46 ∷ without_trailing_zeros (six_digits rest)

-- The canonical decimal of a number of millionths.
abbrev pub canonical : ℤ → List ℕ
canonical value = (if int_lt value (pos 0) then 45 ∷ [] else []) ++ (decimal (nat_abs value / 1000000) ++ fraction_text (nat_abs value % 1000000))

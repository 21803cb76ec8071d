-- The parts of a number word in the order in which they are read, each said of the bytes that are left.
use Rattle.std.specs.Prelude.{◌≡◌, ℕ, ◌^◌, ◌<◌, Bool, true, ◌==◌, ◌&&◌, ◌||◌, List, [], length, drop, slice_index, take_while, nat_lt, if◌then◌else◌}
use Rattle.std.specs.Char.{is_ascii_digit}
use Rattle.std.specs.List.{prefix_len}
use Rattle.std.specs.Str.Parse.{digits_value, starts_with_minus, without_leading_sign}
use Rattle.book_text.specs.declared.number.TheConstants.{MOST_NUMBER_BYTES}
use Rattle.book_text.specs.declared.decimal.Places.{Places}
use Rattle.book_text.specs.Decimal.{is_exponent_mark, is_point, are_digits}

-- the digits at the front
abbrev pub leading_digits : List ℕ → List ℕ
leading_digits bytes = take_while is_ascii_digit bytes

-- what stands behind them
abbrev pub behind_digits : List ℕ → List ℕ
behind_digits bytes = drop (prefix_len is_ascii_digit bytes) bytes

-- the digits behind a point at the front, none where there is no point
abbrev pub leading_fraction : List ℕ → List ℕ
leading_fraction bytes = if is_point (slice_index bytes 0) then leading_digits (drop 1 bytes) else []

-- what stands behind the point and them
abbrev pub behind_fraction : List ℕ → List ℕ
behind_fraction bytes = if is_point (slice_index bytes 0) then behind_digits (drop 1 bytes) else bytes

-- nothing, or e or E, an optional sign, and at least one digit
abbrev pub is_exponent_part : List ℕ → Bool
is_exponent_part bytes = (length bytes == 0) || (is_exponent_mark (slice_index bytes 0)
    && (are_digits (without_leading_sign (drop 1 bytes)) && nat_lt 0 (length (without_leading_sign (drop 1 bytes)))))

-- the number of an exponent's digits
abbrev pub exponent_size : List ℕ → ℕ
exponent_size bytes = digits_value 10 (without_leading_sign (drop 1 bytes))

-- these bytes are nothing or an exponent, which moves the point by so many places, each a number of no more digits than a word can have
pub record IsExponent (bytes : List ℕ) (places : Places) : Type 0 where
  pub form : is_exponent_part bytes ≡ true
  pub right : places.right ≡ (if starts_with_minus (drop 1 bytes) then 0 else exponent_size bytes)
  pub left : places.left ≡ (if starts_with_minus (drop 1 bytes) then exponent_size bytes else 0)
  pub right_small : places.right < 10 ^ MOST_NUMBER_BYTES
  pub left_small : places.left < 10 ^ MOST_NUMBER_BYTES

-- Whole words: digits, of which there are not too many, that write a number in range.
use Rattle.std.specs.Prelude.{ℕ, Bool, ◌&&◌, List, length, Result, Ok, Err, nat_le, if◌then◌else◌}
use Rattle.std.specs.List.{list_all}
use Rattle.std.specs.Char.{is_ascii_digit}
use Rattle.std.specs.Str.Parse.{digits_value}
use Rattle.book_text.specs.declared.number.TheConstants.{MOST_NUMBER_BYTES, MOST_WHOLE}
use Rattle.book_text.specs.declared.number.NumberFault.{NumberFault}
use Rattle.book_text.specs.declared.number.NumberFault.TheVariants.{NotNumber, OutOfRange}

-- some digits, not too many, and nothing else
abbrev pub is_whole : List ℕ → Bool
is_whole word = nat_le 1 (length word) && (nat_le (length word) MOST_NUMBER_BYTES && list_all is_ascii_digit word)

-- the value of a whole word, or what is wrong with the word
abbrev pub whole_value : List ℕ → Result ℕ NumberFault
whole_value word = if is_whole word then (if nat_le (digits_value 10 word) MOST_WHOLE then Ok (digits_value 10 word) else Err OutOfRange) else Err NotNumber

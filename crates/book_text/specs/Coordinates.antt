-- Coordinates: numbers of millionths shifted by the greatest one, so that none is negative.
use Rattle.std.specs.Prelude.{ℕ, ℤ, pos, neg_ℤ, ◌+ℤ◌, ◌-ℤ◌, ◌≤ℤ◌, nat_abs}
use Rattle.book_text.specs.declared.decimal.TheConstants.{MOST_MICRO}

-- a number of millionths that a word can write
pub record IsMicro (value : ℤ) : Type 0 where
  pub low : neg_ℤ (pos MOST_MICRO) ≤ℤ value
  pub high : value ≤ℤ pos MOST_MICRO

-- the coordinate of a number of millionths
abbrev pub coordinate_of : ℤ → ℕ
coordinate_of value = nat_abs (value +ℤ pos MOST_MICRO)

-- the number of millionths of a coordinate
abbrev pub micro_of : ℕ → ℤ
micro_of coordinate = pos coordinate -ℤ pos MOST_MICRO

-- How far the pins of a net reach.
use Rattle.std.specs.Prelude.{◌*◌, ℤ, pos, neg_ℤ, ◌≤ℤ◌}
use Rattle.book_text.specs.declared.decimal.TheConstants.{MOST_MICRO}

-- within 4,000,000 units, as each pin is: its corner and its offset lie within 1,000,000, and half of its node's size, too
pub record IsNear (z : ℤ) : Type 0 where
  pub low : neg_ℤ (pos (4 * MOST_MICRO)) ≤ℤ z
  pub high : z ≤ℤ pos (4 * MOST_MICRO)

-- What tests of integers say.
use Rattle.std.proofs.Common.{◌≡◌, true, false, arith, ℤ, ◌≤ℤ◌, ◌<ℤ◌}
use Rattle.std.specs.Prelude.{int_lt, int_le}
use Rattle.std.proofs.lemmas.Int.{ints}

pub lt_of : (x y : ℤ) → int_lt x y ≡ true → x <ℤ y
lt_of x y h = grind (arith, ints)

pub of_lt : (x y : ℤ) → x <ℤ y → int_lt x y ≡ true
of_lt x y h = grind (arith, ints)

pub not_lt : (x y : ℤ) → int_lt x y ≡ false → y ≤ℤ x
not_lt x y h = grind (arith, ints)

pub le_of : (x y : ℤ) → int_le x y ≡ true → x ≤ℤ y
le_of x y h = grind (arith, ints)

pub of_le : (x y : ℤ) → x ≤ℤ y → int_le x y ≡ true
of_le x y h = grind (arith, ints)

pub not_le : (x y : ℤ) → int_le x y ≡ false → y <ℤ x
not_le x y h = grind (arith, ints)

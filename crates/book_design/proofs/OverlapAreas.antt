-- When two subrows of one height share area.
use Rattle.std.proofs.Common.{◌≡◌, ℤ, pos, ◌+ℤ◌, ◌≤ℤ◌, ◌<ℤ◌, arith, true, false}
use Rattle.std.proofs.lemmas.Int.{ints, clamps}
use Rattle.std.specs.Int.{int_max, int_min}
use Rattle.std.specs.Prelude.{int_lt, int_le, IsTrue, ◌↔◌}
use Rattle.book_design.specs.declared.strips.Strip.{Strip as Kept}
use Rattle.book_design.specs.Forms.Overlap.{Meet}

pub lt_of : (x y : ℤ) → IsTrue (int_lt x y) → x <ℤ y
lt_of x y h = grind (arith, ints)

pub of_lt : (x y : ℤ) → x <ℤ y → IsTrue (int_lt x y)
of_lt x y h = grind (arith, ints)

pub meets : (height : ℤ) (a b : Kept) → pos 0 <ℤ height → int_max a.left b.left <ℤ int_min a.right b.right
    → int_max a.lower b.lower <ℤ (int_min a.lower b.lower +ℤ height) → Meet height a b
meets height a b positive columns rows = record {
  a_wide = omega (arith, ints, clamps);
  b_wide = omega (arith, ints, clamps);
  a_high = omega (arith, ints, clamps);
  b_high = omega (arith, ints, clamps);
  left_right = omega (arith, ints, clamps);
  right_left = omega (arith, ints, clamps);
  lower_upper = omega (arith, ints, clamps);
  upper_lower = omega (arith, ints, clamps);
}

pub rows_of : (height : ℤ) (a b : Kept) → Meet height a b → int_max a.lower b.lower <ℤ (int_min a.lower b.lower +ℤ height)
rows_of height a b m = omega (arith, ints, clamps)

pub lt_same : (x y u v : ℤ) → x ≡ u → y ≡ v → IsTrue (int_lt x y) ↔ (u <ℤ v)
lt_same x y u v e f =
    (λ h. let less : x <ℤ y = lt_of x y h in omega (arith, ints), λ h. of_lt x y (omega (arith, ints)))

pub le_of : (x y : ℤ) → int_le x y ≡ true → x ≤ℤ y
le_of x y h = grind (arith, ints)

pub not_le : (x y : ℤ) → int_le x y ≡ false → y <ℤ x
not_le x y h = grind (arith, ints)

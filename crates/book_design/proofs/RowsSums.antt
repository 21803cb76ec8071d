-- Where a subrow ends, and that the sum fits.
use Rattle.std.proofs.Common.{◌≡◌, ℕ, ◌*◌, ◌≤◌, ◌^◌, ℤ, pos, neg_ℤ, negsuc, ◌*ℤ◌, ◌≤ℤ◌, ◌<ℤ◌, to_z, of_z, arith, refl}
use Rattle.std.proofs.lemmas.Int.{ints}
use Rattle.std.proofs.Math.Nat.{mul-le-mul}
use Rattle.std.proofs.Math.IntN.{pos-*ℤ-pos}
use Rattle.book_design.specs.declared.strips.Strip.{Strip as Kept}
use mir.Syntax.{w128}

pub width_fits : (sites : ℕ) (pitch : ℤ) → sites ≤ 2 ^ 40 → pos 0 <ℤ pitch → pitch ≤ℤ pos (10 ^ 12) → (pos 0 ≤ℤ (pos sites *ℤ pitch)) × ((pos sites *ℤ pitch) ≤ℤ pos (2 ^ 81))
width_fits sites (pos p) few positive high =
    let e : pos sites *ℤ pos p ≡ pos (sites * p) = pos-*ℤ-pos sites p in
    let low : p ≤ 10 ^ 12 = omega (arith, ints) in
    let bound : sites * p ≤ 2 ^ 40 * 10 ^ 12 = mul-le-mul few low in
    (rw e (omega (arith, ints)), rw e (omega (arith, ints)))
width_fits sites (negsuc p) few positive high = absurd (omega (arith, ints))

pub kept_wide : (z : ℤ) → neg_ℤ (pos (2 ^ 100)) ≤ℤ z → z ≤ℤ pos (2 ^ 100) → to_z w128 (of_z w128 z) ≡ z
kept_wide z low high = omega (arith, ints)

pub same_strip : (row sites : ℕ) (left left' right right' lower lower' : ℤ) → left ≡ left' → right ≡ right' → lower ≡ lower'
    → ◌≡◌ {A = Kept} (record { row = row; left = left; right = right; lower = lower; sites = sites }) (record { row = row; left = left'; right = right'; lower = lower'; sites = sites })
same_strip row sites left left' right right' lower lower' e f g = rw (e, f, g) refl

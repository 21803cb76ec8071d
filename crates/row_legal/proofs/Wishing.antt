-- The site that is nearest to a wish.
use Rattle.std.proofs.Common.{◌≡◌, ℕ, ◌/◌, ◌^◌, ◌≤◌, refl, arith, w64, to_z, of_z, ℤ, pos, negsuc, ◌+ℤ◌, ◌-ℤ◌, ◌≤ℤ◌, ◌<ℤ◌}
use Rattle.std.specs.Prelude.{unsigned_abs}
use Rattle.std.proofs.lemmas.Int.{ints}
use Rattle.row_space.specs.declared.parts.Segment.{Segment}
use Rattle.row_space.specs.Ends.{IsGoodSegment}
use Rattle.row_legal.specs.Ranges.{IsNear}
use Rattle.row_legal.specs.Places.{quotient}
use Rattle.row_legal.proofs.Costs.{narrower}

-- what the code computes as the distance from the left end, with its casts
pub offset_is : (pitch x : ℤ) (segment : Segment) (half : ℕ) → IsGoodSegment pitch segment → IsNear x → half ≤ 2 ^ 62
    → to_z w64 (of_z w64 (to_z w64 (of_z w64 (to_z w64 (of_z w64 x) -ℤ to_z w64 (of_z w64 segment.x))) +ℤ to_z w64 half)) ≡ (x -ℤ segment.x) +ℤ pos half
offset_is pitch x segment half good near small =
    let wide = (narrower pitch segment.sites segment.sites good.spaced (omega arith)).start in
    let last : segment.x ≤ℤ pos (10 ^ 12) = omega (arith, ints, wide, good.right) in
    let wish : to_z w64 (of_z w64 x) ≡ x = omega (arith, ints, near.low, near.high) in
    let left : to_z w64 (of_z w64 segment.x) ≡ segment.x = omega (arith, ints, good.left, last) in
    let step : to_z w64 half ≡ pos half = omega (arith, ints, small) in
    let first : to_z w64 (of_z w64 (x -ℤ segment.x)) ≡ x -ℤ segment.x = omega (arith, ints, near.low, near.high, good.left, last) in
    rw (wish, left, step, first) (omega (arith, ints, near.low, near.high, good.left, last, small))

pub quotient_below : (z : ℤ) (d : ℕ) → z <ℤ pos 0 → quotient z d ≡ 0
quotient_below (pos n) d less = absurd (omega (arith, ints))
quotient_below (negsuc n) d less = refl

pub quotient_from : (z : ℤ) (d : ℕ) → pos 0 ≤ℤ z → unsigned_abs z / d ≡ quotient z d
quotient_from (pos n) d least = refl
quotient_from (negsuc n) d least = absurd (omega (arith, ints))

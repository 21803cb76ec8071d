use Rattle.std.proofs.Common.{◌≡◌, ℕ, ℤ, ◌≤ℤ◌, ◌<ℤ◌, w64, to_z, of_z, arith, subst, get_or}
use Rattle.std.proofs.lemmas.Int.{ints}
use mir.Syntax.{w128}
use Rattle.book_design.specs.declared.strips.Strip.{Strip as Kept}
use Rattle.book_design.specs.Faults.{IsOverlapping, IsFirst}
use Rattle.book_design.specs.Forms.Strips.{strip_values, IsStripInRange}
use Rattle.book_design.proofs.OverlapAreas.{le_of, not_le}
use Rattle.book_design.proofs.OverlapRun.{blank, IsAt, some_at, first_at, seen_more, seen_past, none_at_end, in_range}
use Rattle.book_design.proofs.overlap.first_overlap.Goals as goal

pub returns-then-meets_any : goal.returns-then-meets_any
returns-then-meets_any c =
    let height : to_z w64 (of_z w64 c.args.height) ≡ c.args.height = omega (arith, ints) in
    let here : IsAt c.args.strips.now c.loop-i.i (get_or c.args.strips.now c.loop-i.i blank) = some_at c.args.strips.now c.loop-i.i c.loop-i-test.true in
    let P : ℤ → Type 0 = λ z. IsFirst (IsOverlapping (strip_values z c.args.strips.now)) c.loop-i.i in
    subst P height (first_at (to_z w64 (of_z w64 c.args.height)) c.args.strips.now c.loop-i.i c.loop-i.earlier (get_or c.args.strips.now c.loop-i.i blank)
    c.loop-i.invariant here c.if-meets_any.ensures)

pub loop-i-preserved-then-strip-from : goal.loop-i-preserved-then-strip-from
loop-i-preserved-then-strip-from c =
    let s : Kept = get_or c.args.strips.now c.loop-i.i blank in
    let here : IsAt c.args.strips.now c.loop-i.i s = some_at c.args.strips.now c.loop-i.i c.loop-i-test.true in
    let range : IsStripInRange s = in_range c.args.strips.now c.loop-i.i s c.requires.ranges here in
    let empty : s.right ≤ℤ s.left = omega (
      arith,
      ints,
      range.left_low,
      range.left_high,
      range.right_low,
      range.right_high,
      le_of (to_z w128 (of_z w128 (get_or c.args.strips.now c.loop-i.i blank).right)) (to_z w128 (of_z w128 c.from.result)) c.if-strip-from.true,
    ) in
    seen_past (to_z w64 (of_z w64 c.args.height)) c.args.strips.now c.loop-i.i c.loop-i.earlier s c.loop-i.invariant here empty

pub loop-i-preserved : goal.loop-i-preserved
loop-i-preserved c =
    let s : Kept = get_or c.args.strips.now c.loop-i.i blank in
    let here : IsAt c.args.strips.now c.loop-i.i s = some_at c.args.strips.now c.loop-i.i c.loop-i-test.true in
    let range : IsStripInRange s = in_range c.args.strips.now c.loop-i.i s c.requires.ranges here in
    let wide : s.left <ℤ s.right = omega (
      arith,
      ints,
      range.left_low,
      range.left_high,
      range.right_low,
      range.right_high,
      not_le (to_z w128 (of_z w128 (get_or c.args.strips.now c.loop-i.i blank).right)) (to_z w128 (of_z w128 c.from.result)) c.if-strip-from.false,
    ) in
    seen_more (to_z w64 (of_z w64 c.args.height)) c.args.strips.now c.loop-i.i c.loop-i.earlier c.keep.new.kept s (omega (arith, ints))
    c.loop-i.invariant here range wide c.if-meets_any.ensures c.in_ok-keep.ensures

pub returns : goal.returns
returns c =
    let height : to_z w64 (of_z w64 c.args.height) ≡ c.args.height = omega (arith, ints) in
    let P : ℤ → Type 0 = λ z. (s : ℕ) → IsOverlapping (strip_values z c.args.strips.now) s → ⊥ in
    subst P height (none_at_end (to_z w64 (of_z w64 c.args.height)) c.args.strips.now c.loop-i.i c.loop-i.earlier c.loop-i.invariant c.loop-i-test.false)

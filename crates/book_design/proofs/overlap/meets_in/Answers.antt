use Rattle.std.proofs.Common.{◌≡◌, ◌^◌, ◌<◌, ℤ, ◌+ℤ◌, pos, ◌≤ℤ◌, IsTrue, false, w64, to_z, of_z, arith, sym, subst}
use Rattle.std.proofs.lemmas.Int.{ints}
use mir.Syntax.{w128}
use Rattle.std.specs.Prelude.{unsigned_abs}
use Rattle.book_design.specs.Forms.Strips.{IsStripInRange}
use Rattle.book_design.proofs.OverlapAreas.{le_of}
use Rattle.book_design.proofs.OverlapWalk.{MeetsNoneFrom, edges, from_right, step, all_walked, stop, closer, at_height}
use Rattle.book_design.proofs.overlap.meets_in.Goals as goal

pub loop-other-init : goal.loop-other-init
loop-other-init c =
    let height : to_z w64 (of_z w64 c.args.height) ≡ c.args.height = omega (arith, ints) in
    record {
      low = omega (arith, ints);
      none = λ left t past has.
          at_height c.args.height (to_z w64 (of_z w64 c.args.height)) t c.args.strip.now (sym height)
          (from_right c.args.height c.args.kept.now c.args.band c.args.strip.now c.requires.apart left t (omega (arith, ints)) has);
    }

pub last_before-requires : goal.last_before-requires
last_before-requires c = edges c.args.height c.args.kept.now c.requires.apart

pub share_area-requires-clause-a_range : goal.share_area-requires-clause-a_range
share_area-requires-clause-a_range c = c.requires.apart.ranges (c.args.band, c.in-Some.other.left) c.in-Some.other c.in-Some.ensures.there

pub returns-then-other-from : goal.returns-then-other-from
returns-then-other-from c =
    let height : to_z w64 (of_z w64 c.args.height) ≡ c.args.height = omega (arith, ints) in
    let none : MeetsNoneFrom c.args.height c.args.kept.now c.args.band (to_z w128 c.loop-other.end-bits) c.args.strip.now =
    λ left t past has. at_height (to_z w64 (of_z w64 c.args.height)) c.args.height t c.args.strip.now height (c.loop-other.invariant.none left t past has) in
    let ends : c.in-Some.other.right ≤ℤ c.args.strip.now.left =
    omega (arith, ints, le_of (to_z w128 (of_z w128 c.in-Some.other.right)) (to_z w128 (of_z w128 c.from.result)) c.if-other-from.true) in
    stop c.args.height c.args.kept.now c.args.band (to_z w128 c.loop-other.end-bits) c.args.strip.now c.in-Some.other c.requires.positive c.requires.apart
    c.in-Some.ensures none
    (at_height (to_z w64 (of_z w64 c.args.height)) c.args.height c.in-Some.other c.args.strip.now height
    (λ meet. let yes : IsTrue false = c.if-share_area.ensures.1 meet in cc))
    ends

pub loop-other-smaller : goal.loop-other-smaller
loop-other-smaller c =
    let same : to_z w128 (of_z w128 c.from-end.result) ≡ c.in-Some.other.left = omega (arith, ints) in
    let range : IsStripInRange c.in-Some.other = c.requires.apart.ranges (c.args.band, c.in-Some.other.left) c.in-Some.other c.in-Some.ensures.there in
    let P : ℤ → Type 0 = λ z. unsigned_abs (z +ℤ pos (10 ^ 12)) < unsigned_abs (to_z w128 c.loop-other.end-bits +ℤ pos (10 ^ 12)) in
    subst P (sym same) (closer c.in-Some.other.left (to_z w128 c.loop-other.end-bits) range.left_low c.in-Some.ensures.before)

pub loop-other-preserved : goal.loop-other-preserved
loop-other-preserved c =
    let height : to_z w64 (of_z w64 c.args.height) ≡ c.args.height = omega (arith, ints) in
    let same : to_z w128 (of_z w128 c.from-end.result) ≡ c.in-Some.other.left = omega (arith, ints) in
    let range : IsStripInRange c.in-Some.other = c.requires.apart.ranges (c.args.band, c.in-Some.other.left) c.in-Some.other c.in-Some.ensures.there in
    let none : MeetsNoneFrom (to_z w64 (of_z w64 c.args.height)) c.args.kept.now c.args.band (to_z w128 c.loop-other.end-bits) c.args.strip.now = c.loop-other.invariant.none in
    let next : MeetsNoneFrom (to_z w64 (of_z w64 c.args.height)) c.args.kept.now c.args.band c.in-Some.other.left c.args.strip.now =
    step (to_z w64 (of_z w64 c.args.height)) c.args.kept.now c.args.band (to_z w128 c.loop-other.end-bits) c.args.strip.now c.in-Some.other c.in-Some.ensures none
    (λ meet. let yes : IsTrue false = c.if-share_area.ensures.1 meet in cc) in
    record { low = omega (arith, ints, range.left_low); none = λ left t past has. next left t (omega (arith, ints)) has }

pub returns : goal.returns
returns c =
    let height : to_z w64 (of_z w64 c.args.height) ≡ c.args.height = omega (arith, ints) in
    let none : MeetsNoneFrom c.args.height c.args.kept.now c.args.band (to_z w128 c.loop-other.end-bits) c.args.strip.now =
    λ left t past has. at_height (to_z w64 (of_z w64 c.args.height)) c.args.height t c.args.strip.now height (c.loop-other.invariant.none left t past has) in
    all_walked c.args.height c.args.kept.now c.args.band (to_z w128 c.loop-other.end-bits) c.args.strip.now c.in_default.ensures none

use Rattle.std.proofs.Common.{◌≡◌, ℤ, to_z, of_z, subst}
use Rattle.std.proofs.lemmas.Int.{to_z-of_z}
use mir.Syntax.{w128}
use Rattle.book_design.specs.Forms.Overlap.{HasNoneBefore, IsLastBefore}
use Rattle.book_design.proofs.OverlapPlaces.{none_in_empty, last_in_range, none_in_range}
use Rattle.book_design.proofs.overlap.last_before.Goals as goal

pub returns-in_err-place : goal.returns-in_err-place
returns-in_err-place c =
    let end : ℤ = to_z w128 (of_z w128 c.args.end) in
    let same : end ≡ c.args.end = to_z-of_z w128 c.args.end c.ranges.end in
    let none : HasNoneBefore c.args.kept.now c.args.band end = none_in_empty c.args.kept.now c.args.band end c.range.result c.in_err-place.ensures.steps.0 (c.range.ensures.in_range tt) in
    let P : ℤ → Type 0 = λ z. HasNoneBefore c.args.kept.now c.args.band z in
    rw c.from_residual.ensures (subst P same none)

pub returns-then-place-band : goal.returns-then-place-band
returns-then-place-band c =
    let end : ℤ = to_z w128 (of_z w128 c.args.end) in
    let same : end ≡ c.args.end = to_z-of_z w128 c.args.end c.ranges.end in
    let P : ℤ → Type 0 = λ z. IsLastBefore c.args.kept.now c.args.band z c.in_ok-place.strip.now in
    subst P same (last_in_range c.args.kept.now c.args.band end c.range.result c.next_back.new.self c.in_ok-place.place.now c.in_ok-place.strip.now
    c.in_ok-place.ensures.steps (c.range.ensures.in_range tt) c.requires c.if-place-band.true)

pub returns-else-place-band : goal.returns-else-place-band
returns-else-place-band c =
    let end : ℤ = to_z w128 (of_z w128 c.args.end) in
    let same : end ≡ c.args.end = to_z-of_z w128 c.args.end c.ranges.end in
    let P : ℤ → Type 0 = λ z. HasNoneBefore c.args.kept.now c.args.band z in
    subst P same (none_in_range c.args.kept.now c.args.band end c.range.result c.next_back.new.self c.in_ok-place.place.now c.in_ok-place.strip.now
    c.in_ok-place.ensures.steps (c.range.ensures.in_range tt) c.if-place-band.false)

use Rattle.std.proofs.Common.{◌≡◌, subst, arith, length, ℤ, w64, to_z, of_z}
use Rattle.std.proofs.lemmas.List.{get_or_default}
use Rattle.std.proofs.lemmas.Int.{to_z-of_z}
use Rattle.book_design.specs.Forms.Assembly.{IsCoreOf}
use Rattle.book_design.proofs.AssemblyCore.{widened_more, core_whole}
use Rattle.book_design.proofs.assembly.core_of.Goals as goal

pub loop-strip-preserved : goal.loop-strip-preserved
loop-strip-preserved c =
    let kept = c.args.strips.now in
    let here = get_or_default kept c.loop-strip.strip-index _ _ c.loop-strip-test.true in
    widened_more (to_z w64 (of_z w64 c.args.height)) kept c.loop-strip.strip-index _ c.loop-strip.core c.widened-core.result here c.widened-core.ensures.none c.widened-core.ensures.some c.loop-strip.invariant

pub returns : goal.returns
returns c =
    let kept = c.args.strips.now in
    let P : ℤ → Type 0 = λ h. IsCoreOf h kept (length kept) c.unwrap.result in
    let ended : c.loop-strip.strip-index ≡ length kept = omega (arith, c.loop-strip-test.false, c.loop-strip.auto) in
    subst P (to_z-of_z w64 c.args.height c.ranges.height) (core_whole (to_z w64 (of_z w64 c.args.height)) kept c.loop-strip.strip-index c.loop-strip.core c.unwrap.result ended c.unwrap.ensures c.loop-strip.invariant)

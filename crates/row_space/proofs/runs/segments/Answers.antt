use Rattle.std.proofs.Common.{◌≡◌, ◌∙◌, List, length, ap, arith, take}
use Rattle.std.specs.List.{flat_map}
use Rattle.std.proofs.lemmas.List.{take_all}
use Rattle.book_design.specs.declared.parts.Subrow.{Subrow}
use Rattle.row_space.specs.Runs.{segments_in}
use Rattle.row_space.proofs.Bounding.{good_segments}
use Rattle.row_space.proofs.runs.segments.Goals as goal

pub returns-clause-good : goal.returns-clause-good
returns-clause-good c =
    let design = c.args.design.now in
    let all : c.loop-number.number ≡ length design.subrows = omega (arith, c.loop-number-test.false, c.loop-number.auto.number-end, ap length c.subrows-subrow-items.ensures.subrows) in
    let whole : take c.loop-number.number design.subrows ≡ design.subrows = take_all c.loop-number.number design.subrows (omega (arith, all)) in
    good_segments design c.loop-number.found.pitch c.loop-number.found.segments c.pitch.ensures.valid c.loop-number.invariant.pitch
    (c.loop-number.invariant.runs ∙ ap (λ (subrows : List Subrow). flat_map (segments_in design) subrows) whole)

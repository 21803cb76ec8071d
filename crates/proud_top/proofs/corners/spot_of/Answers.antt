use Rattle.std.proofs.Common.{◌∙◌, List, ap, sym, subst, rules, w64, ◌+ℤ◌, ◌*ℤ◌, pos}
use mir.Val.{SFits}
use Rattle.row_space.specs.declared.parts.Segment.{Segment}
use Rattle.row_space.specs.Values.{segment_at}
use Rattle.wire_report.specs.declared.corner.Corner.{Corner}
use Rattle.wire_report.specs.Wire.{IsNearCorner}
use Rattle.proud_top.proofs.Placing.{spot_fits, spot_value, spot_near, row_value, same_corner, place_near}
use Rattle.proud_top.proofs.corners.spot_of.Goals as goal

pub overflow_add-result : goal.overflow_add-result
overflow_add-result c =
    let s : SFits w64 c.from.result = search rules in
    let p : SFits w64 c.pitch.result = search rules in
    spot_fits _ c.from.result c.pitch.result c.args.place.site c.args.segments.now.pitch s p c.from.ensures c.pitch.ensures
    (spot_near c.args.segments.now c.as_slice.result.now c.args.place c.as_slice.ensures c.requires.segments c.requires.place)

pub returns-clause-spot : goal.returns-clause-spot
returns-clause-spot c =
    let s : SFits w64 c.from.result = search rules in
    let p : SFits w64 c.pitch.result = search rules in
    let x = spot_value _ c.from.result c.pitch.result c.args.place.site c.args.segments.now.pitch s p c.from.ensures c.pitch.ensures
    (spot_near c.args.segments.now c.as_slice.result.now c.args.place c.as_slice.ensures c.requires.segments c.requires.place) in
    let left = ap (λ (list : List Segment). (segment_at list c.args.place.segment).x +ℤ pos c.args.place.site *ℤ c.args.segments.now.pitch) c.as_slice.ensures in
    let lower = row_value c.args.segments.now c.as_slice.result.now c.args.place c.as_slice.ensures c.requires.segments c.requires.place in
    same_corner _ _ _ _ (x ∙ left) lower

pub returns-clause-near : goal.returns-clause-near
returns-clause-near c =
    let P : Corner → Type 0 = λ corner. IsNearCorner corner in
    subst P (sym (returns-clause-spot c)) (place_near c.args.segments.now c.args.place c.requires.segments c.requires.place)

use Rattle.std.proofs.Common.{List, length, pos, rules, sym, subst}
use Rattle.std.specs.List.{AllByRecursion}
use Rattle.std.proofs.lemmas.List.Elements.{All-from_recursion}
use Rattle.book_design.specs.declared.parts.Pin.{Pin}
use Rattle.book_design.specs.WellFormed.{IsGoodPin}
use Rattle.wire_report.specs.Wire.{pin_x, pin_y}
use Rattle.wire_report.proofs.Extents.{one_item_more, part_of}
use Rattle.wire_report.proofs.lengths.net_length.Goals as goal

pub spot_of-spot-requires-in-loop-pin-clause-pin :
    goal.spot_of-spot-requires-in-loop-pin-clause-pin
spot_of-spot-requires-in-loop-pin-clause-pin c =
    let pins = c.as_slice.result.now in
    let Good = IsGoodPin (length c.args.design.now.nodes) in
    let good = All-from_recursion Good pins (subst (λ (list : List Pin). AllByRecursion Good list) (sym c.as_slice.ensures) c.requires.pins) in
    search (rules, part_of Good pins good c.loop-pin.pin-index (record { node = 0; dx = pos 0; dy = pos 0 }))

pub loop-pin-preserved : goal.loop-pin-preserved
loop-pin-preserved c =
    let design = c.args.design.now in
    let corners = c.args.corners.now in
    let none : Pin = record { node = 0; dx = pos 0; dy = pos 0 } in
    let spot = c.spot_of-spot-in-loop-pin in
    record {
      across = one_item_more (pin_x design corners) _ _ c.loop-pin.pin-index none spot.result.x c.loop-pin.across c.with-across.result c.loop-pin-test.true spot.ensures.x spot.ensures.x_near
          c.loop-pin.invariant.across c.with-across.ensures.least c.with-across.ensures.greatest;
      up = one_item_more (pin_y design corners) _ _ c.loop-pin.pin-index none spot.result.y c.loop-pin.up c.with-up.result c.loop-pin-test.true spot.ensures.y spot.ensures.y_near
          c.loop-pin.invariant.up c.with-up.ensures.least c.with-up.ensures.greatest;
    }

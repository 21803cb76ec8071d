use Rattle.std.proofs.Common.{◌≡◌, ap, ◌∙◌}
use Rattle.std.specs.List.{slice_index}
use Rattle.relax_system.specs.declared.points.Point.{Point}
use Rattle.relax_system.specs.System.{point_at}
use Rattle.relax_table.specs.Seats.{TableState, SeatState}
use Rattle.relax_table.proofs.table.SideTable.look_around.Goals as goal

pub returns-clause-others : goal.returns-clause-others
returns-clause-others g c = λ j none.
    let near : c.as_slice-near.result.now ≡ (point_at c.args.self.now.system c.args.i).near =
    c.as_slice-near.ensures ∙ (ap (λ (p : Point). p.near) c.point.ensures.point ∙ ap (λ (t : TableState). (point_at t.system c.args.i).near) c.self.view_is) in
    let before : slice_index c.seat.inside.seat.me.0.seen j ≡ slice_index c.args.seat.now.seen j = ap (λ (s : SeatState). slice_index s.seen j) c.seat.view_is in
    rw (← before) (c.look_each.ensures.looked.others j (rw near none))

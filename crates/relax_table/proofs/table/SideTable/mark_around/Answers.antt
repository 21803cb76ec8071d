use Rattle.std.proofs.Common.{◌≡◌, ℕ, ◌<◌, List, length, slice_index_or, arith, ap, sym, ◌∙◌, subst}
use Rattle.relax_system.specs.declared.points.Near.{Near}
use Rattle.relax_system.specs.declared.points.Point.{Point}
use Rattle.relax_system.specs.System.{point_at, IsValid}
use Rattle.relax_table.specs.Seats.{TableState, SeatState, IsSeatOf}
use Rattle.relax_table.proofs.Sweeps.{near_there}
use Rattle.relax_table.proofs.table.SideTable.mark_around.Goals as goal

pub mark-requires-clause-own : goal.mark-requires-clause-own
mark-requires-clause-own g c = λ κs known. subst (λ (s : SeatState). IsSeatOf c.args.self.now s) (sym c.loop-entry.invariant) c.requires.own

pub mark-requires-clause-point : goal.mark-requires-clause-point
mark-requires-clause-point g c =
    let d : Near = record { point = 0; weight = 0 } in
    let k : ℕ = c.loop-entry.entry-index in
    let mine : List Near = (point_at c.args.self.now.system c.args.i).near in
    let near : c.as_slice-entry-items.result.now ≡ mine =
    c.as_slice-entry-items.ensures ∙ (ap (λ (p : Point). p.near) c.point.ensures.point ∙ ap (λ (t : TableState). (point_at t.system c.args.i).near) c.self.view_is) in
    let j : ℕ = (slice_index_or c.as_slice-entry-items.result.now k d).point in
    let at : j ≡ (slice_index_or mine k d).point = ap (λ (l : List Near). (slice_index_or l k d).point) near in
    let length_near : length c.as_slice-entry-items.result.now ≡ length mine = ap (λ (l : List Near). length l) near in
    let more : k < length mine = omega (arith, c.loop-entry-test.true) in
    let valid : IsValid c.args.self.now.system = rw (← ap (λ (t : TableState). t.system) c.self.view_is) c.point.ensures.valid in
    let here : (slice_index_or mine k d).point < length c.args.self.now.system = near_there c.args.self.now.system c.args.i k d valid c.requires.point more in
    omega (arith, here, at)

use Rattle.std.proofs.Common.{rules, ◌≡◌, ◌<◌, List, length, arith, ap, ◌∙◌, subst}
use Rattle.relax_system.specs.declared.points.Point.{Point}
use Rattle.relax_table.specs.Seats.{SeatState, Advances}
use Rattle.relax_table.specs.Forms.Rule.{state_of}
use Rattle.relax_table.proofs.Moves.{loads_allowed}
use Rattle.relax_table.proofs.Seated.{held_loaded, advances_loaded}
use Rattle.relax_table.proofs.table.SideTable.load.Goals as goal

pub load-word-requires : goal.load-word-requires
load-word-requires g c = (search rules, search rules, loads_allowed g.D.Direction.side _ _ _ _ _ _ (search rules) (search rules))

pub invariant_of-seat : goal.invariant_of-seat
invariant_of-seat g c = (search rules, held_loaded g.D.Direction.side _ _ _ _ _ _ _ _ _ c.seat.invariant.1 c.load-word.ensures.2.1)

pub returns-clause-advances : goal.returns-clause-advances
returns-clause-advances g c =
    let v = c.seat.inside.seat.me.0 in
    let system : v.system ≡ c.args.self.now.system = ap (λ (s : SeatState). s.system) c.seat.view_is ∙ c.requires.own.same_system in
    let count : length v.system ≡ length c.args.self.now.system = ap (λ (p : List Point). length p) system in
    let there : c.args.i < length v.seen = omega (arith, c.seat.invariant.1.sound.in_boxes.all, c.requires.point, count) in
    subst (λ (s : SeatState). Advances g.D.Direction.side s (state_of c.load-word.new.seat.table_id c.load-word.new.seat.me.0)) c.seat.view_is
    (advances_loaded g.D.Direction.side c.seat.inside.seat.table_id c.load-word.new.seat.table_id v c.load-word.new.seat.me.0 c.args.i c.load-word.result c.load-word.ensures.0 there c.load-word.ensures.2.1)

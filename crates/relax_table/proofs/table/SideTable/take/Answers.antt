use Rattle.std.proofs.Common.{rules, subst}
use Rattle.relax_table.specs.Seats.{SeatState, IsSound}
use Rattle.relax_table.proofs.Moves.{takes_allowed}
use Rattle.relax_table.proofs.Chases.{held_taken, state_taken, advances_taken, own_taken}
use Rattle.relax_table.proofs.table.SideTable.take.Goals as goal

pub swap-marks-requires : goal.swap-marks-requires
swap-marks-requires g c = (search rules, search rules, takes_allowed g.D.Direction.side _ _ _ _ _ _ (search rules) c.seat.invariant.1.unspent)

pub invariant_of-seat : goal.invariant_of-seat
invariant_of-seat g c = (search rules, held_taken g.D.Direction.side c.seat.inside.seat.table_id c.swap-marks.new.seat.table_id c.seat.inside.seat.me.0 c.swap-marks.new.seat.me.0 _ _ _ _ _ c.seat.invariant.1 c.swap-marks.ensures.0 c.swap-marks.ensures.2.1 (search rules))

pub returns-clause-own : goal.returns-clause-own
returns-clause-own g c = own_taken c.args.self.now c.args.seat.now _ _ c.requires.own (state_taken c.seat.inside.seat.table_id c.swap-marks.new.seat.table_id c.seat.inside.seat.me.0 c.swap-marks.new.seat.me.0 c.args.seat.now _ c.swap-marks.ensures.0 c.swap-marks.ensures.2.1 c.seat.view_is)

pub returns-clause-advances : goal.returns-clause-advances
returns-clause-advances g c =
    let sound : IsSound g.D.Direction.side c.args.seat.now = subst (λ (s : SeatState). IsSound g.D.Direction.side s) c.seat.view_is c.seat.invariant.1.sound in
    advances_taken g.D.Direction.side c.args.seat.now _ _ sound (state_taken c.seat.inside.seat.table_id c.swap-marks.new.seat.table_id c.seat.inside.seat.me.0 c.swap-marks.new.seat.me.0 c.args.seat.now _ c.swap-marks.ensures.0 c.swap-marks.ensures.2.1 c.seat.view_is)

pub returns-clause-taken : goal.returns-clause-taken
returns-clause-taken g c = state_taken c.seat.inside.seat.table_id c.swap-marks.new.seat.table_id c.seat.inside.seat.me.0 c.swap-marks.new.seat.me.0 c.args.seat.now _ c.swap-marks.ensures.0 c.swap-marks.ensures.2.1 c.seat.view_is

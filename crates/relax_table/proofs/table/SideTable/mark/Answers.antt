use Rattle.std.proofs.Common.{rules}
use Rattle.relax_table.proofs.Moves.{marks_allowed}
use Rattle.relax_table.proofs.Chases.{held_marked, state_marked}
use Rattle.relax_table.proofs.table.SideTable.mark.Goals as goal

pub fetch_or-requires : goal.fetch_or-requires
fetch_or-requires g c = (search rules, search rules, marks_allowed g.D.Direction.side _ _ _ _ _ _ _ (search rules))

pub invariant_of-seat : goal.invariant_of-seat
invariant_of-seat g c = (search rules, held_marked g.D.Direction.side c.seat.inside.seat.table_id c.fetch_or.new.seat.table_id c.seat.inside.seat.me.0 c.fetch_or.new.seat.me.0 _ _ _ c.seat.invariant.1 c.fetch_or.ensures.0 c.fetch_or.ensures.2.1)

pub returns : goal.returns
returns g c = state_marked c.seat.inside.seat.table_id c.fetch_or.new.seat.table_id c.seat.inside.seat.me.0 c.fetch_or.new.seat.me.0 c.args.seat.now c.fetch_or.ensures.0 c.fetch_or.ensures.2.1 c.seat.view_is

use Rattle.std.proofs.Common.{ap, ◌∙◌}
use Rattle.relax_table.specs.Seats.{SeatState}
use Rattle.relax_table.proofs.Chases.{chased_relaxed, chased_same}
use Rattle.relax_table.proofs.table.SideTable.relax_and_mark.Goals as goal

pub returns-then-fetch-clause-chased : goal.returns-then-fetch-clause-chased
returns-then-fetch-clause-chased g c =
    chased_same g.D.Direction.side c.args.self.now c.args.seat.now c.relax_side.new.seat c.mark_around.new.seat c.args.steps.now c.relax_side.new.steps _ _
    (chased_relaxed g.D.Direction.side c.args.self.now c.args.seat.now c.relax_side.new.seat c.args.i c.args.steps.now c.relax_side.new.steps c.relax_side.ensures.own c.relax_side.ensures.advances c.relax_side.ensures.counts.0 c.relax_side.ensures.counts.1 c.relax_side.ensures.counts.3 c.relax_side.ensures.points)
    c.mark_around.ensures

pub returns-else-fetch-clause-chased : goal.returns-else-fetch-clause-chased
returns-else-fetch-clause-chased g c =
    chased_relaxed g.D.Direction.side c.args.self.now c.args.seat.now c.relax_side.new.seat c.args.i c.args.steps.now c.relax_side.new.steps c.relax_side.ensures.own c.relax_side.ensures.advances c.relax_side.ensures.counts.0 c.relax_side.ensures.counts.1 c.relax_side.ensures.counts.3 c.relax_side.ensures.points

pub returns-then-fetch-clause-idle : goal.returns-then-fetch-clause-idle
returns-then-fetch-clause-idle g c = ap (λ (s : SeatState). s.idle) c.mark_around.ensures ∙ c.relax_side.ensures.counts.4

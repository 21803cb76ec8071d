use Rattle.std.proofs.Common.{rules, ◌≡◌, [], ◌∷◌, ◌++◌, sum, ap, arith}
use Rattle.std.proofs.lemmas.List.Elements.{All-pop}
use Rattle.relax_table.specs.Seats.{IsSeatOf}
use Rattle.relax_world.specs.Forms.Table.{moves_of}
use Rattle.relax_world.proofs.Replays.{moves-more}
use Rattle.relax_world.proofs.replay.all_moves.Goals as goal

pub join_sides-joined-requires-clause-other : goal.join_sides-joined-requires-clause-other
join_sides-joined-requires-clause-other g c κs within =
    let popped = All-pop (IsSeatOf c.args.table.now) c.loop-seat.crew.items c.pop-in-loop-seat.new.self.items c.pop-in-loop-seat.result c.pop-in-loop-seat.ensures.items c.loop-seat.invariant.seated in
    search rules

pub loop-seat-preserved : goal.loop-seat-preserved
loop-seat-preserved g c =
    let popped = All-pop (IsSeatOf c.args.table.now) c.loop-seat.crew.items c.pop-in-loop-seat.new.self.items c.pop-in-loop-seat.result c.pop-in-loop-seat.ensures.items c.loop-seat.invariant.seated in
    let items : c.loop-seat.crew.items ≡ c.pop-in-loop-seat.new.self.items ++ c.in-Some-pop.seat ∷ [] = search rules in
    let moves : sum (moves_of c.loop-seat.crew.items) ≡ sum (moves_of (c.pop-in-loop-seat.new.self.items ++ c.in-Some-pop.seat ∷ [])) = ap (λ (l : _). sum (moves_of l)) items in
    record {
      own = c.join_sides-joined.ensures.own;
      seated = popped.0;
      total = omega (arith, moves, moves-more c.pop-in-loop-seat.new.self.items c.in-Some-pop.seat, c.loop-seat.invariant.total, c.join_sides-joined.ensures.counts.2);
    }

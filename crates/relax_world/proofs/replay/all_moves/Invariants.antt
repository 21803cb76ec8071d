use Rattle.std.proofs.Common.{◌≡◌, ◌+◌, sum, vec_len}
use Rattle.relax_table.specs.Seats.{IsSeatOf}
use Rattle.relax_world.specs.Forms.Table.{AllSeated, moves_of}
use Rattle.relax_world.proofs.replay.all_moves.Given as goal

abbrev pub invariant-loop-seat : goal.invariant-loop-seat
invariant-loop-seat g l = record {
  own : IsSeatOf l.table l.joined;
  seated : AllSeated l.table l.crew.items;
  total : l.joined.moves + sum (moves_of l.crew.items) ≡ sum (moves_of l.fn.crew.items);
}

abbrev pub decreases-loop-seat : goal.decreases-loop-seat
decreases-loop-seat g l = vec_len l.crew

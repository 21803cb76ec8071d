use Rattle.std.proofs.Common.{◌≡◌, ◌+◌, ◌-◌, ◌*◌, ◌<◌, min, length, MatchBool}
use Rattle.relax_table.specs.Seats.{sweep_steps}
use Rattle.relax_table.specs.Forms.Chase.{IsChased}
use Rattle.relax_table.proofs.table.SideTable.chase_once.Given as goal

abbrev pub invariant-loop-word : goal.invariant-loop-word
invariant-loop-word g l = record {
  chased : IsChased g.D.Direction.side l.self l.initial.seat l.seat l.initial.steps l.steps (l.word - l.from) (sweep_steps l.self.system (64 * l.from) (min (64 * l.word) (length l.self.system)));
  idle : MatchBool l.found (l.seat.idle < l.word - l.from) (l.seat.idle ≡ l.initial.seat.idle + (l.word - l.from));
}

use Rattle.std.proofs.Common.{◌-◌, ◌*◌, ◌≤◌, min, length}
use Rattle.relax_table.specs.Seats.{sweep_steps}
use Rattle.relax_table.specs.Forms.Chase.{IsChased}
use Rattle.relax_table.proofs.Chases.{IsPaced}
use Rattle.relax_table.proofs.table.SideTable.chase_side.Given as goal

abbrev pub invariant-passes : goal.invariant-passes
invariant-passes g l = record {
  chased : IsChased g.D.Direction.side l.self l.initial.seat l.seat l.initial.steps l.steps (l.done * (l.to - l.from)) (l.done * sweep_steps l.self.system (64 * l.from) (min (64 * l.to) (length l.self.system)));
  most : l.done ≤ l.passes;
  paced : IsPaced l.found (l.to - l.from) l.done l.seat.idle;
}

abbrev pub decreases-passes : goal.decreases-passes
decreases-passes g l = l.passes - l.done

use Rattle.std.proofs.Common.{◌≡◌, ◌+◌, ◌-◌, ◌*◌, ◌^◌, ◌<◌, ◌≤◌, min, length}
use Rattle.relax_table.specs.Seats.{sweep_steps}
use Rattle.relax_table.specs.Forms.Chase.{IsChased}
use Rattle.relax_table.proofs.table.SideTable.relax_marked.Given as goal

-- the points below 64 * word + at are gone through, and left has the bits of the others
abbrev pub invariant-bits : goal.invariant-bits
invariant-bits g l = record {
  chased : IsChased g.D.Direction.side l.self l.initial.seat l.seat l.initial.steps l.steps 0 (sweep_steps l.self.system (64 * l.word) (min (64 * l.word + l.at) (length l.self.system)));
  idle : l.seat.idle ≡ l.initial.seat.idle;
  few : l.at ≤ 64;
  bits : l.left < 2 ^ (64 - l.at);
}

abbrev pub decreases-bits : goal.decreases-bits
decreases-bits g l = 64 - l.at

use Rattle.std.proofs.Common.{◌≡◌, ◌+◌, vec_len}
use Rattle.relax_table.specs.Seats.{IsSeatOf}
use Rattle.relax_world.specs.Forms.Table.{AllSeated}
use Rattle.relax_world.proofs.replay.seats_of.Given as goal

abbrev pub invariant-loop : goal.invariant-loop
invariant-loop g l = (vec_len l.crew + 1 ≡ l.counter) × IsSeatOf l.table l.first × AllSeated l.table l.crew.items

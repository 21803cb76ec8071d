use Rattle.std.proofs.Common.{◌≡◌, ◌+◌, vec_len}
use Rattle.relax_table.specs.Seats.{IsSeatOf}
use Rattle.relax_crew.specs.Forms.Turns.{AllSeated, AllSingle}
use Rattle.relax_crew.proofs.crew.seats_of.Given as goal

abbrev pub invariant-loop : goal.invariant-loop
invariant-loop g l = (vec_len l.crew + 1 ≡ l.counter) × IsSeatOf l.table l.first × AllSeated l.table l.crew.items × AllSingle l.crew.items × (l.first.parts ≡ 1)

use Rattle.std.proofs.Common.{◌≡◌, [], false}
use Rattle.relax_table.specs.Forms.Look.{IsLooked}
use Rattle.relax_table.specs.Forms.Rule.{state_of}
use Rattle.relax_table.proofs.table.SideTable.look_each.Given as goal

abbrev pub invariant-loop-entry : goal.invariant-loop-entry
invariant-loop-entry g l =
    IsLooked g.D.Direction.side l.near l.self (state_of l.initial.seat.table_id l.initial.seat.me.0) (state_of l.seat.table_id l.seat.me.0) l.initial.steps l.steps l.entry-index l.moved × (l.seat.me.1 ≡ []) × (l.seat.me.0.spent ≡ false) × (l.seen ≡ l.seat.me.0.seen)

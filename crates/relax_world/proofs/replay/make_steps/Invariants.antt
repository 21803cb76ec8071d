use Rattle.std.proofs.Common.{◌≡◌, length, take}
use Rattle.relax_world.specs.Forms.Table.{AllSeated, EachMakesOwn}
use Rattle.relax_world.proofs.replay.make_steps.Given as goal

abbrev pub invariant-loop-event : goal.invariant-loop-event
invariant-loop-event g l = record {
  count : length l.crew ≡ length l.fn.crew;
  seated : AllSeated l.table l.crew;
  own : EachMakesOwn l.points (take l.event-index l.events) l.fn.crew l.crew;
}

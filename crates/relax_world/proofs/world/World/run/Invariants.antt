use Rattle.std.proofs.Common.{◌≡◌, drop}
use Rattle.std.specs.List.{fold}
use Rattle.relax_world.specs.World.{world_after}
use Rattle.relax_world.specs.Sound.{IsSoundWorld}
use Rattle.relax_world.proofs.world.World.run.Given as goal

-- what is left to do leads from here to where all leads from the start
abbrev pub invariant-loop-event : goal.invariant-loop-event
invariant-loop-event l = (fold world_after l.self (drop l.event-index l.events) ≡ fold world_after l.fn.self l.events) × IsSoundWorld l.self

use Rattle.std.proofs.Common.{◌≡◌, take}
use Rattle.relax_world.specs.Forms.Table.{moves_of}
use Rattle.relax_world.proofs.replay.raises_of.Given as goal

abbrev pub invariant-loop-seat : goal.invariant-loop-seat
invariant-loop-seat g l = l.raises ≡ moves_of (take l.seat-index l.crew)

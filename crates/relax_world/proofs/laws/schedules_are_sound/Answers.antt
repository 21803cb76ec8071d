use Rattle.relax_world.specs.World.{first_world}
use Rattle.relax_world.proofs.Sounds.{sound_first}
use Rattle.relax_world.proofs.Schedules.{sound_run}
use Rattle.relax_world.proofs.laws.schedules_are_sound.Goals as goal

pub returns : goal.returns
returns c = λ side points seats events valid. sound_run (first_world side points seats) events (sound_first side points seats valid)

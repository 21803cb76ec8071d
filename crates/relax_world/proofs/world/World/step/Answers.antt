use Rattle.std.proofs.Common.{rules, ◌<◌, length}
use Rattle.relax_table.specs.Step.Kind.{Load, Renew}
use Rattle.relax_world.specs.Sound.{IsSoundWorld}
use Rattle.relax_world.proofs.Sounds.{sound_stepped}
use Rattle.relax_world.proofs.world.World.step.Goals as goal

pub returns-in-Load-clause-sound : goal.returns-in-Load-clause-sound
returns-in-Load-clause-sound c =
    let sound : IsSoundWorld c.args.self.now = rw (← c.self.view_is) c.self.invariant in
    let in' : c.place_of-seat.result.0 < length c.args.self.now.seen = search rules in
    let there : c.place_of-seat.result.1 < length c.args.self.now.words = search rules in
    rw c.load.ensures (sound_stepped c.args.self.now Load c.place_of-seat.result.0 c.place_of-seat.result.1 sound in' there)

pub returns-in-Renew-clause-sound : goal.returns-in-Renew-clause-sound
returns-in-Renew-clause-sound c =
    let sound : IsSoundWorld c.args.self.now = rw (← c.self.view_is) c.self.invariant in
    let in' : c.place_of-seat.result.0 < length c.args.self.now.seen = search rules in
    let there : c.place_of-seat.result.1 < length c.args.self.now.words = search rules in
    rw c.renew.ensures (sound_stepped c.args.self.now Renew c.place_of-seat.result.0 c.place_of-seat.result.1 sound in' there)

use Rattle.std.proofs.Common.{rules, ◌≡◌, ◌++◌, length, take, drop}
use Rattle.relax_world.proofs.Replays.{rest_of}
use Rattle.relax_world.proofs.replay.play_side.Goals as goal

pub answer-requires-clause-done : goal.answer-requires-clause-done
answer-requires-clause-done g c κs within =
    let whole : take c.in_ok-crew.crew.len (c.run.new.crew ++ drop (length c.run.new.crew) c.in_ok-crew.crew.items) ≡ c.run.new.crew =
    rest_of c.run.new.crew c.in_ok-crew.crew.items c.in_ok-crew.crew.len (cc) (search rules) in
    rw whole c.run.ensures.done

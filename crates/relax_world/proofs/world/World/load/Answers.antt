use Rattle.std.proofs.Common.{rules, ◌≡◌, ◌<◌, length, set}
use Rattle.std.specs.List.{slice_index}
use Rattle.std.proofs.lemmas.List.{get_or_read}
use Rattle.relax_world.specs.World.{WorldState, world_of, seen_by}
use Rattle.relax_world.proofs.Sounds.{sound_loaded}
use Rattle.relax_world.proofs.world.World.load.Goals as goal

pub invariant_of-self : goal.invariant_of-self
invariant_of-self c =
    let w : WorldState = world_of c.self.inside.side c.self.inside.system.now c.self.inside.words.items c.self.inside.seen.items c.self.inside.changes in
    let in' : c.args.seat < length w.seen = search rules in
    let there : c.args.point < length w.words = search rules in
    let sight : c.index_mut-sight.result.now ≡ seen_by w c.args.seat = get_or_read w.seen _ _ in' c.index_mut-sight.ensures.value _ in
    let word : c.index-word.result.now ≡ slice_index w.words c.args.point = get_or_read w.words _ _ there c.index-word.ensures _ in
    let put : c.put.new.self ≡ set (seen_by w c.args.seat) c.args.point (slice_index w.words c.args.point) = rw (← sight, ← word) c.put.ensures in
    sound_loaded w c.args.seat c.args.point c.put.new.self c.self.invariant in' there put

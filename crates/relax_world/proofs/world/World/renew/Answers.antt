use Rattle.std.proofs.Common.{rules, ◌≡◌, ◌<◌, length, set, arith}
use Rattle.std.specs.List.{slice_index}
use Rattle.std.proofs.lemmas.List.{get_or_read}
use Rattle.relax_system.specs.Sides.{mean_of}
use Rattle.relax_table.specs.Step.Kind.{Renew}
use Rattle.relax_table.specs.Ways.{is_past, one_if}
use Rattle.relax_table.proofs.Numbers.{one_if-le}
use Rattle.relax_world.specs.World.{WorldState, world_of, seen_by, word_by}
use Rattle.relax_world.proofs.Sounds.{sound_renewed, few_changes}
use Rattle.relax_world.proofs.world.World.renew.Goals as goal

pub overflow_add-self : goal.overflow_add-self
overflow_add-self c =
    let w : WorldState = world_of c.self.inside.side c.self.inside.system.now c.self.inside.words.items c.self.inside.seen.items c.self.inside.changes in
    omega (arith, few_changes w c.self.invariant, one_if-le (is_past c.self.inside.side c.index-word.result.now c.further-next.result), c.passes.ensures)

pub invariant_of-self : goal.invariant_of-self
invariant_of-self c =
    let w : WorldState = world_of c.self.inside.side c.self.inside.system.now c.self.inside.words.items c.self.inside.seen.items c.self.inside.changes in
    let in' : c.args.seat < length w.seen = search rules in
    let there : c.args.point < length w.words = search rules in
    let sight : c.index_mut-sight.result.now ≡ seen_by w c.args.seat = get_or_read w.seen _ _ in' c.index_mut-sight.ensures.value _ in
    let word : c.index-word.result.now ≡ slice_index w.words c.args.point = get_or_read w.words _ _ there c.index-word.ensures _ in
    let mean : c.mean-mean.result ≡ mean_of w.side w.system c.args.point (seen_by w c.args.seat) = cc in
    let next : c.further-next.result ≡ word_by w Renew c.args.seat c.args.point = rw (← word, ← mean) c.further-next.ensures in
    let put : c.put.new.self ≡ set (seen_by w c.args.seat) c.args.point c.further-next.result = rw (← sight) c.put.ensures in
    let passed : c.passes.result ≡ one_if (is_past w.side (slice_index w.words c.args.point) c.further-next.result) = rw (← word) c.passes.ensures in
    sound_renewed w c.args.seat c.args.point c.further-next.result c.passes.result c.put.new.self c.self.invariant in' there next put passed

use Rattle.std.proofs.Common.{rules, ◌≡◌, length, take}
use Rattle.relax_table.proofs.Moves.{opening_keeps}
use Rattle.relax_table.proofs.table.SideTable.over.Goals as goal

pub of_words-requires : goal.of_words-requires
of_words-requires g c =
    let start : c.of-2.result.value.items ≡ c.args.start.now = search rules in
    let front : take (length c.args.system.now) c.deref.result.now ≡ c.args.start.now = rw (c.deref.ensures.value, ← c.requires.boxes.all) c.in_ok-words.ensures.front in
    rw (c.of.ensures, start, front) (opening_keeps g.D.Direction.side c.args.system.now c.args.start.now c.points.ensures.valid c.requires.boxes c.requires.first)

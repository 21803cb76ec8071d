use Rattle.std.proofs.Common.{rules, ◌≡◌, ℕ, ◌<◌, ◌||◌, List, length, slice_index_or, arith, ap, sym}
use Rattle.std.proofs.Math.Bool.{or-true, or-false}
use Rattle.relax_system.specs.declared.points.Near.{Near}
use Rattle.relax_system.specs.declared.points.Point.{Point}
use Rattle.relax_table.specs.Seats.{TableState}
use Rattle.relax_table.specs.Forms.Rule.{state_of}
use Rattle.relax_table.proofs.Moves.{loads_allowed}
use Rattle.relax_table.proofs.Sweeps.{looked_by_view}
use Rattle.relax_table.proofs.table.SideTable.look_each.Goals as goal
use Rattle.relax_table.proofs.table.SideTable.look_each.Goals.{then-see, else-see}

pub load-word-requires : goal.load-word-requires
load-word-requires g c =
    let d : Near = record { point = 0; weight = 0 } in
    let j : ℕ = (slice_index_or c.args.near.now c.loop-entry.entry-index d).point in
    let there : j < length c.args.self.now.system = c.requires.there c.loop-entry.entry-index d c.loop-entry-test.true in
    let system : length c.self.inside.system.now ≡ length c.args.self.now.system = ap (λ (t : TableState). length t.system) c.self.view_is in
    let points : length c.self.inside.table.shared.key.system.value ≡ length c.self.inside.system.now = ap (λ (l : List Point). length l) c.self.invariant.0 in
    let inside : j < length c.self.inside.table.shared.key.system.value = omega arith in
    (search rules, omega (arith, c.self.invariant.1), loads_allowed g.D.Direction.side _ _ _ _ _ _ inside c.loop-entry.invariant.2)

pub loop-entry-preserved : goal.loop-entry-preserved
loop-entry-preserved g c =
    let d : Near = record { point = 0; weight = 0 } in
    let looked = looked_by_view g.D.Direction.side c.args.near.now c.args.self.now (state_of c.args.seat.now.table_id c.args.seat.now.me.0) c.loop-entry.seat.table_id c.load-word.new.seat.table_id c.loop-entry.seat.me.0 c.load-word.new.seat.me.0 c.loop-entry.seen c.see.new.seen
    c.args.steps.now c.loop-entry.steps c.tick.new.self c.loop-entry.entry-index c.load-word.result c.loop-entry.moved c.see.result d c.loop-entry.invariant.0 c.loop-entry-test.true
    c.requires.there c.loop-entry.invariant.3 c.load-word.ensures.0 c.load-word.ensures.2.1 c.see.ensures.seen c.tick.ensures c.see.ensures.moved in
    let moved : c.if-see.moved ≡ (c.loop-entry.moved || c.see.result) = elim c.if-see.branch [
      | then-see w ↦ rw (w.moved-is, w.if-see.true) (sym (or-true c.loop-entry.moved))
      | else-see w ↦ rw (w.moved-is, w.if-see.false) (sym (or-false c.loop-entry.moved))
    ] in
    rw moved (looked.0, search rules, search rules, looked.1)

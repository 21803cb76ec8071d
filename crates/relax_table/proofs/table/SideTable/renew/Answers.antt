use Rattle.std.proofs.Common.{rules, ◌≡◌, ℕ, ◌+◌, ◌<◌, List, length, arith, ap, sym, ◌∙◌, subst}
use Rattle.relax_system.specs.declared.side.Side.{Side}
use Rattle.relax_system.specs.declared.points.Point.{Point}
use Rattle.relax_table.specs.Ways.{is_past, one_if}
use Rattle.relax_table.specs.Step.{word_after}
use Rattle.relax_table.specs.Step.Kind.{Renew}
use Rattle.relax_table.specs.Seats.{TableState, SeatState, Advances}
use Rattle.relax_table.specs.Forms.Rule.{state_of}
use Rattle.relax_table.proofs.Numbers.{one_if-le}
use Rattle.relax_table.proofs.Seated.{held_renewed, advances_renewed, stepped_quiet, moves-few}
use Rattle.relax_table.proofs.table.SideTable.renew.Goals as goal

pub overflow_add-seat : goal.overflow_add-seat
overflow_add-seat g c = omega (arith, moves-few g.D.Direction.side _ c.seat.invariant.1.sound, c.seat.invariant.1.same_moves, one_if-le (is_past c.side-3.result c.fetch-old.result c.further-new.result), c.passes.ensures)

pub invariant_of-seat : goal.invariant_of-seat
invariant_of-seat g c =
    let system : c.self.inside.system.now ≡ c.seat.inside.seat.me.0.system =
    ap (λ (t : TableState). t.system) c.self.view_is ∙ (sym c.requires.own.same_system ∙ sym (ap (λ (s : SeatState). s.system) c.seat.view_is)) in
    let seen : c.deref.result.now ≡ c.seat.inside.seat.me.0.seen = c.deref.ensures.value ∙ c.seat.invariant.1.same_seen in
    let word : c.further-new.result ≡ word_after g.D.Direction.side c.seat.inside.seat.me.0.system Renew c.args.i c.fetch-old.result c.seat.inside.seat.me.0.seen =
    cc (c.further-new.ensures, c.side-2.ensures, c.mean-mean.ensures, c.side.ensures, system, seen) in
    let count : c.passes.result ≡ one_if (is_past g.D.Direction.side c.fetch-old.result c.further-new.result) = c.passes.ensures ∙ ap (λ (z : Side). one_if (is_past z c.fetch-old.result c.further-new.result)) c.side-3.ensures in (
      search rules,
      held_renewed g.D.Direction.side _ _ _ _ _ _ _ _ _ _ _ c.seat.invariant.1 c.fetch-old.ensures.stepped word (ap (λ (k : ℕ). c.seat.inside.moves + k) count),
    )

pub returns-clause-advances : goal.returns-clause-advances
returns-clause-advances g c =
    let v = c.seat.inside.seat.me.0 in
    let system : v.system ≡ c.args.self.now.system = ap (λ (s : SeatState). s.system) c.seat.view_is ∙ c.requires.own.same_system in
    let count : length v.system ≡ length c.args.self.now.system = ap (λ (p : List Point). length p) system in
    let there : c.args.i < length v.seen = omega (arith, c.seat.invariant.1.sound.in_boxes.all, c.requires.point, count) in
    subst (λ (s : SeatState). Advances g.D.Direction.side s (state_of c.fetch-old.new.seat.table_id c.fetch-old.new.seat.me.0)) c.seat.view_is
    (advances_renewed g.D.Direction.side c.seat.inside.seat.table_id c.fetch-old.new.seat.table_id v c.fetch-old.new.seat.me.0 c.args.i c.fetch-old.result (c.fetch-old.ensures.own.0 ∙ (sym c.requires.own.same_table ∙ sym (ap (λ (s : SeatState). s.table) c.seat.view_is))) there c.fetch-old.ensures.stepped)

pub returns-clause-quiet : goal.returns-clause-quiet
returns-clause-quiet g c =
    let v = c.seat.inside.seat.me.0 in
    let system : v.system ≡ c.args.self.now.system = ap (λ (s : SeatState). s.system) c.seat.view_is ∙ c.requires.own.same_system in
    let count : length v.system ≡ length c.args.self.now.system = ap (λ (p : List Point). length p) system in
    let there : c.args.i < length v.seen = omega (arith, c.seat.invariant.1.sound.in_boxes.all, c.requires.point, count) in
    stepped_quiet g.D.Direction.side c.args.self.now.system c.seat.inside.seat.table_id v c.fetch-old.new.seat.me.0 c.args.i c.fetch-old.result c.seat.invariant.1.sound system c.requires.point there c.fetch-old.ensures.stepped

use Rattle.std.proofs.Common.{rules, ◌≡◌, ℕ, List, length, arith, ap, sym, ◌∙◌, subst}
use Rattle.relax_system.specs.declared.points.Point.{Point}
use Rattle.std.specs.List.{slice_index}
use Rattle.relax_system.specs.Sides.{further_of}
use Rattle.relax_table.proofs.Vectors.{at_furthest}
use Rattle.relax_table.specs.Seats.{SeatState, Advances}
use Rattle.relax_table.specs.declared.rule.View.{View}
use Rattle.relax_table.specs.Forms.Rule.{state_of, joined, furthest}
use Rattle.relax_table.proofs.Moves.{joins_allowed, learns_allowed}
use Rattle.relax_table.proofs.Seated.{held_joined, advances_joined, moves-few}
use Rattle.relax_table.proofs.table.SideTable.join_sides.Goals as goal

pub join_seat-requires : goal.join_seat-requires
join_seat-requires g c = (search rules, search rules, search rules, search rules, joins_allowed g.D.Direction.side _ _ _ _ _ _ c.seat.invariant.1.unspent c.other.invariant.1.unspent)

pub load-requires : goal.load-requires
load-requires g c = (search rules, search rules, learns_allowed g.D.Direction.side _ _ _ _ _ _ (search rules) (ap (λ (z : View × List (ℕ × ℕ)). z.0.spent) c.join_seat.ensures.2 ∙ c.seat.invariant.1.unspent))

pub overflow_add-result : goal.overflow_add-result
overflow_add-result g c = omega (arith, moves-few g.D.Direction.side _ c.seat.invariant.1.sound, c.seat.invariant.1.same_moves, moves-few g.D.Direction.side _ c.other.invariant.1.sound, c.other.invariant.1.same_moves)

pub invariant_of-result : goal.invariant_of-result
invariant_of-result g c =
    let both : c.join_seat.new.seat.me.0 ≡ joined g.D.Direction.side c.seat.inside.seat.me.0 c.other.inside.seat.me.0 = ap (λ (z : View × List (ℕ × ℕ)). z.0) c.join_seat.ensures.2 in
    let seen : c.put_furthest.new.seen.items ≡ furthest g.D.Direction.side c.seat.inside.seen.items c.other.inside.seen.items = c.put_furthest.ensures ∙ ap (λ (u : List ℕ). furthest g.D.Direction.side c.seat.inside.seen.items u) c.deref.ensures.value in (
      search rules,
      held_joined g.D.Direction.side _ _ _ _ _ _ _ _ _ _ _ _ _ _ _ c.seat.invariant.1 c.other.invariant.1 both c.load.ensures.2.1 seen (search rules),
    )

pub returns-clause-advances : goal.returns-clause-advances
returns-clause-advances g c =
    let both : c.join_seat.new.seat.me.0 ≡ joined g.D.Direction.side c.seat.inside.seat.me.0 c.other.inside.seat.me.0 = ap (λ (z : View × List (ℕ × ℕ)). z.0) c.join_seat.ensures.2 in
    let mine : c.seat.inside.seat.me.0.system ≡ c.args.self.now.system = ap (λ (s : SeatState). s.system) c.seat.view_is ∙ c.requires.own.same_system in
    let other : c.other.inside.seat.me.0.system ≡ c.args.self.now.system = ap (λ (s : SeatState). s.system) c.other.view_is ∙ c.requires.other.same_system in
    let start : c.seat.inside.seat.me.0.start ≡ c.args.self.now.start = ap (λ (s : SeatState). s.start) c.seat.view_is ∙ c.requires.own.same_start in
    let start' : c.other.inside.seat.me.0.start ≡ c.args.self.now.start = ap (λ (s : SeatState). s.start) c.other.view_is ∙ c.requires.other.same_start in
    let table : c.seat.inside.seat.table_id ≡ c.args.self.now.id = ap (λ (s : SeatState). s.table) c.seat.view_is ∙ c.requires.own.same_table in
    let table' : c.other.inside.seat.table_id ≡ c.args.self.now.id = ap (λ (s : SeatState). s.table) c.other.view_is ∙ c.requires.other.same_table in
    let name : c.load.new.seat.table_id ≡ c.seat.inside.seat.table_id = c.load.ensures.0 ∙ c.join_seat.ensures.0 in
    let h = advances_joined g.D.Direction.side c.seat.inside.seat.table_id c.other.inside.seat.table_id c.load.new.seat.table_id c.seat.inside.seat.me.0 c.other.inside.seat.me.0 c.join_seat.new.seat.me.0 c.load.new.seat.me.0 _ _ _ _ _ _
    c.seat.invariant.1 c.other.invariant.1 both c.load.ensures.2.1 (mine ∙ sym other) (start ∙ sym start') name (name ∙ (table ∙ sym table')) in
    subst (λ (s : SeatState). Advances g.D.Direction.side s (state_of c.load.new.seat.table_id c.load.new.seat.me.0)) c.seat.view_is h.0

pub returns-clause-advances_other : goal.returns-clause-advances_other
returns-clause-advances_other g c =
    let both : c.join_seat.new.seat.me.0 ≡ joined g.D.Direction.side c.seat.inside.seat.me.0 c.other.inside.seat.me.0 = ap (λ (z : View × List (ℕ × ℕ)). z.0) c.join_seat.ensures.2 in
    let mine : c.seat.inside.seat.me.0.system ≡ c.args.self.now.system = ap (λ (s : SeatState). s.system) c.seat.view_is ∙ c.requires.own.same_system in
    let other : c.other.inside.seat.me.0.system ≡ c.args.self.now.system = ap (λ (s : SeatState). s.system) c.other.view_is ∙ c.requires.other.same_system in
    let start : c.seat.inside.seat.me.0.start ≡ c.args.self.now.start = ap (λ (s : SeatState). s.start) c.seat.view_is ∙ c.requires.own.same_start in
    let start' : c.other.inside.seat.me.0.start ≡ c.args.self.now.start = ap (λ (s : SeatState). s.start) c.other.view_is ∙ c.requires.other.same_start in
    let table : c.seat.inside.seat.table_id ≡ c.args.self.now.id = ap (λ (s : SeatState). s.table) c.seat.view_is ∙ c.requires.own.same_table in
    let table' : c.other.inside.seat.table_id ≡ c.args.self.now.id = ap (λ (s : SeatState). s.table) c.other.view_is ∙ c.requires.other.same_table in
    let name : c.load.new.seat.table_id ≡ c.seat.inside.seat.table_id = c.load.ensures.0 ∙ c.join_seat.ensures.0 in
    let h = advances_joined g.D.Direction.side c.seat.inside.seat.table_id c.other.inside.seat.table_id c.load.new.seat.table_id c.seat.inside.seat.me.0 c.other.inside.seat.me.0 c.join_seat.new.seat.me.0 c.load.new.seat.me.0 _ _ _ _ _ _
    c.seat.invariant.1 c.other.invariant.1 both c.load.ensures.2.1 (mine ∙ sym other) (start ∙ sym start') name (name ∙ (table ∙ sym table')) in
    subst (λ (s : SeatState). Advances g.D.Direction.side s (state_of c.load.new.seat.table_id c.load.new.seat.me.0)) c.other.view_is h.1

pub returns-clause-seen : goal.returns-clause-seen
returns-clause-seen g c = λ i.
    let both : c.join_seat.new.seat.me.0 ≡ joined g.D.Direction.side c.seat.inside.seat.me.0 c.other.inside.seat.me.0 = ap (λ (z : View × List (ℕ × ℕ)). z.0) c.join_seat.ensures.2 in
    let mine : c.seat.inside.seat.me.0.system ≡ c.args.self.now.system = ap (λ (s : SeatState). s.system) c.seat.view_is ∙ c.requires.own.same_system in
    let other : c.other.inside.seat.me.0.system ≡ c.args.self.now.system = ap (λ (s : SeatState). s.system) c.other.view_is ∙ c.requires.other.same_system in
    let same : length c.seat.inside.seat.me.0.seen ≡ length c.other.inside.seat.me.0.seen =
    omega (arith, c.seat.invariant.1.sound.in_boxes.all, c.other.invariant.1.sound.in_boxes.all, ap (λ (l : List Point). length l) (mine ∙ sym other)) in
    let view : c.load.new.seat.me.0.seen ≡ furthest g.D.Direction.side c.seat.inside.seat.me.0.seen c.other.inside.seat.me.0.seen = ap (λ (v : View). v.seen) (c.load.ensures.2.1.view ∙ both) in
    let here : slice_index c.load.new.seat.me.0.seen i ≡ further_of g.D.Direction.side (slice_index c.seat.inside.seat.me.0.seen i) (slice_index c.other.inside.seat.me.0.seen i) =
    ap (λ (l : List ℕ). slice_index l i) view ∙ at_furthest g.D.Direction.side c.seat.inside.seat.me.0.seen c.other.inside.seat.me.0.seen i same in
    subst (λ (s : SeatState). slice_index c.load.new.seat.me.0.seen i ≡ further_of g.D.Direction.side (slice_index s.seen i) (slice_index c.args.other.seen i)) c.seat.view_is
    (subst (λ (s : SeatState). slice_index c.load.new.seat.me.0.seen i ≡ further_of g.D.Direction.side (slice_index c.seat.inside.seat.me.0.seen i) (slice_index s.seen i)) c.other.view_is here)

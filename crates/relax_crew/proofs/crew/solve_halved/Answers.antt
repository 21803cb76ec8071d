use Rattle.std.proofs.Common.{rules, ◌≡◌, ◌+◌, ◌-◌, subst, arith}
use Rattle.relax_system.specs.Sides.{starts_of}
use Rattle.relax_system.specs.Halved.{halved, doubled}
use Rattle.relax_crew.specs.Forms.Shifts.{IsSettled, IsReached}
use Rattle.relax_crew.proofs.Shifts.{twice_in_boxes, twice_first, first_reached, next_reached, few_moves, low_entries}
use Rattle.relax_crew.proofs.crew.solve_halved.Goals as goal

pub shifts-init : goal.shifts-init
shifts-init g c =
    let side = g.D.Direction.side in
    let points = c.args.system.now in
    let begun : c.in_ok-found.found.items ≡ starts_of side (halved side 20 points) = search rules in
    let settled : IsSettled side (halved side 20 points) c.in_ok-found.found.items c.args.seats c.in_ok-seat.seat = search rules in
    let reached = first_reached side 20 points c.in_ok-found.found.items c.args.seats c.in_ok-seat.seat begun settled in
    search rules

pub double-requires-clause-low : goal.double-requires-clause-low
double-requires-clause-low g c = low_entries g.D.Direction.side c.shifts.shift c.args.system.now c.shifts.found.items c.shifts.moves c.shifts.invariant.0 c.shifts.invariant.4

pub settle_from-requires-in-shifts-clause-boxes : goal.settle_from-requires-in-shifts-clause-boxes
settle_from-requires-in-shifts-clause-boxes g c κs within =
    let side = g.D.Direction.side in
    let points = c.args.system.now in
    let k = c.shifts.shift - 1 in
    let before : IsReached side points (k + 1) c.shifts.found.items c.shifts.moves = subst (λ n. IsReached side points n c.shifts.found.items c.shifts.moves) (omega (arith, c.shifts.invariant.1)) c.shifts.invariant.4 in
    let halves : c.halve_anew.new.self ≡ halved side k points = search rules in
    let twice : c.deref-in-shifts.result.now ≡ doubled side (halved side k points) c.shifts.found.items = search rules in
    rw halves (twice_in_boxes side k points c.shifts.found.items c.deref-in-shifts.result.now c.shifts.moves c.shifts.invariant.0 before twice)

pub settle_from-requires-in-shifts-clause-first : goal.settle_from-requires-in-shifts-clause-first
settle_from-requires-in-shifts-clause-first g c κs within =
    let side = g.D.Direction.side in
    let points = c.args.system.now in
    let k = c.shifts.shift - 1 in
    let before : IsReached side points (k + 1) c.shifts.found.items c.shifts.moves = subst (λ n. IsReached side points n c.shifts.found.items c.shifts.moves) (omega (arith, c.shifts.invariant.1)) c.shifts.invariant.4 in
    let halves : c.halve_anew.new.self ≡ halved side k points = search rules in
    let twice : c.deref-in-shifts.result.now ≡ doubled side (halved side k points) c.shifts.found.items = search rules in
    rw halves (twice_first side k points c.shifts.found.items c.deref-in-shifts.result.now c.shifts.moves c.shifts.invariant.0 before twice)

pub overflow_add-moves : goal.overflow_add-moves
overflow_add-moves g c =
    let side = g.D.Direction.side in
    let points = c.args.system.now in
    let k = c.shifts.shift - 1 in
    let before : IsReached side points (k + 1) c.shifts.found.items c.shifts.moves = subst (λ n. IsReached side points n c.shifts.found.items c.shifts.moves) (omega (arith, c.shifts.invariant.1)) c.shifts.invariant.4 in
    let seat = c.in_ok-seat-2.seat in
    let twice : c.deref-in-shifts.result.now ≡ doubled side (halved side k points) c.shifts.found.items = search rules in
    let settled : IsSettled side (halved side k points) c.deref-in-shifts.result.now c.args.seats seat = search rules in
    let reached = next_reached side k points c.shifts.found.items c.deref-in-shifts.result.now c.args.seats c.shifts.moves seat c.shifts.invariant.0 before twice settled in
    omega (arith, c.moves-moves-in-shifts.ensures.moves, few_moves side k points seat.seen (c.shifts.moves + seat.moves) c.shifts.invariant.0 reached)

pub shifts-preserved : goal.shifts-preserved
shifts-preserved g c =
    let side = g.D.Direction.side in
    let points = c.args.system.now in
    let k = c.shifts.shift - 1 in
    let before : IsReached side points (k + 1) c.shifts.found.items c.shifts.moves = subst (λ n. IsReached side points n c.shifts.found.items c.shifts.moves) (omega (arith, c.shifts.invariant.1)) c.shifts.invariant.4 in
    let seat = c.in_ok-seat-2.seat in
    let halves : c.halve_anew.new.self ≡ halved side k points = search rules in
    let twice : c.deref-in-shifts.result.now ≡ doubled side (halved side k points) c.shifts.found.items = search rules in
    let settled : IsSettled side (halved side k points) c.deref-in-shifts.result.now c.args.seats seat = search rules in
    let reached = next_reached side k points c.shifts.found.items c.deref-in-shifts.result.now c.args.seats c.shifts.moves seat c.shifts.invariant.0 before twice settled in
    let values : c.copy_from_slice-in-shifts.new.self.items ≡ seat.seen = search rules in
    (c.shifts.invariant.0, omega (arith, c.shifts-test.true), omega (arith, c.shifts.invariant.2), halves, rw (values, c.moves-moves-in-shifts.ensures.moves) reached)

pub returns : goal.returns
returns g c =
    let last : c.shifts.shift ≡ 1 = omega (arith, c.shifts-test.false, c.shifts.invariant.1) in
    subst (λ n. IsReached g.D.Direction.side c.args.system.now n c.shifts.found.items c.shifts.moves) last c.shifts.invariant.4

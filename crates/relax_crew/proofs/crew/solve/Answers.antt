use Rattle.std.proofs.Common.{rules, ◌≡◌, ◌+◌, arith}
use Rattle.relax_system.specs.Halved.{doubled}
use Rattle.relax_crew.specs.Forms.Shifts.{IsSettled}
use Rattle.relax_crew.proofs.Shifts.{low_entries, last_in_boxes, last_first, solved, few_solved}
use Rattle.relax_crew.proofs.crew.solve.Goals as goal

pub double-requires-clause-low : goal.double-requires-clause-low
double-requires-clause-low g c = low_entries g.D.Direction.side 1 c.args.system.now c.in_ok-start.start.items c.in_ok-start.before c.points.ensures.valid c.in_ok-start.ensures

pub settle_from-requires-clause-boxes : goal.settle_from-requires-clause-boxes
settle_from-requires-clause-boxes g c κs within =
    let twice : c.deref.result.now ≡ doubled g.D.Direction.side c.args.system.now c.in_ok-start.start.items = search rules in
    last_in_boxes g.D.Direction.side c.args.system.now c.in_ok-start.start.items c.deref.result.now c.in_ok-start.before c.points.ensures.valid c.in_ok-start.ensures twice

pub settle_from-requires-clause-first : goal.settle_from-requires-clause-first
settle_from-requires-clause-first g c κs within =
    let twice : c.deref.result.now ≡ doubled g.D.Direction.side c.args.system.now c.in_ok-start.start.items = search rules in
    last_first g.D.Direction.side c.args.system.now c.in_ok-start.start.items c.deref.result.now c.in_ok-start.before c.points.ensures.valid c.in_ok-start.ensures twice

pub overflow_add-moves : goal.overflow_add-moves
overflow_add-moves g c =
    let twice : c.deref.result.now ≡ doubled g.D.Direction.side c.args.system.now c.in_ok-start.start.items = search rules in
    let settled : IsSettled g.D.Direction.side c.args.system.now c.deref.result.now c.args.seats c.in_ok-seat.seat = search rules in
    let done = solved g.D.Direction.side c.args.system.now c.in_ok-start.start.items c.deref.result.now c.args.seats c.in_ok-start.before c.in_ok-seat.seat c.points.ensures.valid c.in_ok-start.ensures twice settled in
    omega (arith, c.moves.ensures.moves, few_solved g.D.Direction.side c.args.system.now c.args.seats (c.in_ok-start.before + c.in_ok-seat.seat.moves) c.in_ok-seat.seat c.points.ensures.valid done)

pub returns : goal.returns
returns g c =
    let twice : c.deref.result.now ≡ doubled g.D.Direction.side c.args.system.now c.in_ok-start.start.items = search rules in
    let settled : IsSettled g.D.Direction.side c.args.system.now c.deref.result.now c.args.seats c.in_ok-seat.seat = search rules in
    rw c.moves.ensures.moves (solved g.D.Direction.side c.args.system.now c.in_ok-start.start.items c.deref.result.now c.args.seats c.in_ok-start.before c.in_ok-seat.seat c.points.ensures.valid c.in_ok-start.ensures twice settled)

use Rattle.std.proofs.Common.{rules}
use Rattle.relax_crew.specs.Forms.Turns.{HasRun}
use Rattle.relax_crew.proofs.Joins.{joined_run}
use Rattle.relax_crew.proofs.crew.together.Goals as goal

pub returns-in-Some : goal.returns-in-Some
returns-in-Some g c =
    let others : HasRun g.D.Direction.side c.args.table.now c.args.k c.in-Some.others = search rules in
    joined_run g.D.Direction.side c.args.table.now c.args.k c.args.seat c.in-Some.others c.join_sides.result c.requires.one others c.join_sides.ensures.own c.join_sides.ensures.counts.3 c.join_sides.ensures.advances

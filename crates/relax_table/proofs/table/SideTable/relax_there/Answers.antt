use Rattle.std.proofs.Common.{◌<◌, length, refl, ap, arith}
use Rattle.relax_table.specs.Seats.{TableState}
use Rattle.relax_table.proofs.Chases.{chased_none, chased_within, sweep_one}
use Rattle.relax_table.proofs.table.SideTable.relax_there.Goals as goal

pub returns-then-i-points-clause-chased : goal.returns-then-i-points-clause-chased
returns-then-i-points-clause-chased g c =
    let there : c.args.i < length c.args.self.now.system = omega (arith, c.points.ensures.count, ap (λ (t : TableState). length t.system) c.self.view_is) in
    chased_within g.D.Direction.side c.args.self.now c.args.seat.now c.relax_and_mark.new.seat c.args.steps.now c.relax_and_mark.new.steps _ _ _ _ c.relax_and_mark.ensures.chased refl (sweep_one c.args.self.now.system c.args.i there)

pub returns-else-i-points-clause-chased : goal.returns-else-i-points-clause-chased
returns-else-i-points-clause-chased g c = chased_none g.D.Direction.side c.args.self.now c.args.seat.now c.args.steps.now _ c.requires.own c.know.ensures

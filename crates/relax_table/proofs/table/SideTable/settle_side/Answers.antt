use Rattle.std.proofs.lemmas.Bool.{MatchBool-at_true}
use Rattle.relax_table.proofs.Sweeps.{settling_none, settling_more, settled_cost, ends-fall}
use Rattle.std.proofs.Common.{refl, inl, inr}
use Rattle.relax_table.proofs.Seated.{continues_on}
use Rattle.relax_table.proofs.Ranges.{once_continues, begins_more}
use Rattle.relax_table.proofs.table.SideTable.settle_side.Goals as goal

pub sweeps-init : goal.sweeps-init
sweeps-init g c = (settling_none g.D.Direction.side c.args.self.now _ c.args.seat.now c.args.steps.now c.requires.own c.know.ensures, inl refl)

pub sweeps-smaller : goal.sweeps-smaller
sweeps-smaller g c = ends-fall g.D.Direction.side c.args.self.now c.sweeps.seat c.sweep.new.seat c.sweep.ensures.own c.sweeps.invariant.0.advances.sound c.sweep.ensures.advances (MatchBool-at_true _ _ c.sweeps-test.true c.sweep.ensures.moved)

pub sweeps-preserved : goal.sweeps-preserved
sweeps-preserved g c = (
  settling_more g.D.Direction.side c.args.self.now _ c.args.seat.now c.sweeps.seat c.sweep.new.seat c.args.steps.now c.sweeps.steps c.sweep.new.steps c.sweeps.invariant.0 c.sweep.ensures.own c.sweep.ensures.advances c.sweep.ensures.counted
      c.sweep.ensures.steps (MatchBool-at_true _ _ c.sweeps-test.true c.sweep.ensures.moved) (once_continues _ _ _ _ _ c.sweep.ensures.swept),
  inr (begins_more c.args.self.now.system c.args.from c.args.to c.args.seat.now c.sweeps.seat c.sweep.new.seat c.sweeps.invariant.1 c.sweep.ensures.swept),
)

pub returns-clause-cost : goal.returns-clause-cost
returns-clause-cost g c = λ u calm. settled_cost g.D.Direction.side c.args.self.now _ c.args.seat.now c.sweeps.seat c.sweep.new.seat c.args.steps.now c.sweeps.steps c.sweep.new.steps u c.know.ensures c.requires.own c.sweeps.invariant.0 c.sweep.ensures.steps calm

pub returns-clause-continues : goal.returns-clause-continues
returns-clause-continues g c = continues_on c.args.seat.now c.sweeps.seat c.sweep.new.seat c.sweeps.invariant.0.continues (once_continues _ _ _ _ _ c.sweep.ensures.swept)

pub returns-clause-begins : goal.returns-clause-begins
returns-clause-begins g c = begins_more c.args.self.now.system c.args.from c.args.to c.args.seat.now c.sweeps.seat c.sweep.new.seat c.sweeps.invariant.1 c.sweep.ensures.swept

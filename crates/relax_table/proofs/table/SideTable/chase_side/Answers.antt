use Rattle.std.proofs.Common.{◌-◌, Bool, subst, arith}
use Rattle.relax_table.proofs.Chases.{chased_none, chased_within, chased_pass, passes_cost, IsPaced, paced_none, paced_more}
use Rattle.relax_table.proofs.table.SideTable.chase_side.Goals as goal

pub passes-init : goal.passes-init
passes-init g c = record {
  chased = chased_within g.D.Direction.side c.args.self.now c.args.seat.now c.args.seat.now c.args.steps.now c.args.steps.now 0 _ 0 _ (chased_none g.D.Direction.side c.args.self.now c.args.seat.now c.args.steps.now 0 c.requires.own c.know.ensures) (omega arith) (omega arith);
  most = omega arith;
  paced = paced_none _ _;
}

pub passes-preserved : goal.passes-preserved
passes-preserved g c = record {
  chased = chased_pass g.D.Direction.side c.args.self.now c.args.seat.now c.passes.seat c.chase_once-found.new.seat c.args.steps.now c.passes.steps c.chase_once-found.new.steps c.passes.done _ _ c.passes.invariant.chased c.chase_once-found.ensures.chased;
  most = omega arith;
  paced = paced_more c.chase_once-found.result (c.args.to - c.args.from) c.passes.done c.passes.seat.idle c.chase_once-found.new.seat.idle (subst (λ (b : Bool). IsPaced b (c.args.to - c.args.from) c.passes.done c.passes.seat.idle) c.passes-test.true c.passes.invariant.paced) c.chase_once-found.ensures.idle;
}

pub returns-after-passes-clause-takes : goal.returns-after-passes-clause-takes
returns-after-passes-clause-takes g c = record { done = c.passes.done; takes = c.passes.invariant.chased.takes; most = c.passes.invariant.most; some = λ _. c.passes.invariant.paced.some c.passes-test.false; ends = λ _. c.passes.invariant.paced.ends c.passes-test.false; goes = c.passes.invariant.paced.went }

pub returns-else-done-passes-clause-takes : goal.returns-else-done-passes-clause-takes
returns-else-done-passes-clause-takes g c = record { done = c.passes.done; takes = c.passes.invariant.chased.takes; most = c.passes.invariant.most; some = λ some. omega arith; ends = λ fewer. absurd (omega arith); goes = c.passes.invariant.paced.went }

pub returns-after-passes-clause-cost : goal.returns-after-passes-clause-cost
returns-after-passes-clause-cost g c = passes_cost g.D.Direction.side c.args.self.now c.args.seat.now c.passes.seat c.args.steps.now c.passes.steps _ c.passes.done c.args.passes _ c.passes.invariant.chased c.passes.invariant.most

pub returns-else-done-passes-clause-cost : goal.returns-else-done-passes-clause-cost
returns-else-done-passes-clause-cost g c = passes_cost g.D.Direction.side c.args.self.now c.args.seat.now c.passes.seat c.args.steps.now c.passes.steps _ c.passes.done c.args.passes _ c.passes.invariant.chased c.passes.invariant.most

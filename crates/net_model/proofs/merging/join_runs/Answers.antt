use Rattle.std.proofs.Common.{◌+◌, ◌≤◌, get_or, arith}
use Rattle.net_model.specs.declared.parts.Near.{Near}
use Rattle.net_model.proofs.MergingSums.{weight_sum}
use Rattle.net_model.proofs.MergingRuns.{joins_first, joins_same, joins_next, joined_is, joined_fits}
use Rattle.net_model.proofs.merging.join_runs.Goals as goal
use Rattle.net_model.proofs.merging.join_runs.Goals.{then-near-last, else-near-last}

-- what stands past the end
abbrev no_near : Near
no_near = record { point = 0; weight = 0 }

pub loop-i-init : goal.loop-i-init
loop-i-init c = joins_first c.args.near.now c.requires.weighty

pub overflow_add-near : goal.overflow_add-near
overflow_add-near c =
    let sum : (get_or c.loop-i.near c.loop-i.last no_near).weight + (get_or c.loop-i.near c.loop-i.i no_near).weight ≤ weight_sum c.args.near.now = joined_fits _ _ _ _ no_near (omega arith) c.loop-i.invariant in
    omega arith

pub loop-i-preserved : goal.loop-i-preserved
loop-i-preserved c = elim c.if-near-last.branch [
  | then-near-last w ↦ rw (w.near-is, w.last-is) (joins_same c.args.near.now c.loop-i.near c.loop-i.i c.loop-i.last no_near (omega arith) c.loop-i.invariant w.if-near-last.true)
  | else-near-last w ↦ rw (w.near-is, w.last-is) (joins_next c.args.near.now c.loop-i.near c.loop-i.i c.loop-i.last no_near (omega arith) c.requires.sorted c.requires.weighty c.loop-i.invariant w.if-near-last.false)
]

pub returns-clause-joined : goal.returns-clause-joined
returns-clause-joined c = λ n below. joined_is _ _ _ _ n c.loop-i.invariant (omega arith) (λ some. omega arith) below

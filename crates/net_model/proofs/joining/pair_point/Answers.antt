use Rattle.std.proofs.Common.{◌∙◌, ap}
use Rattle.net_model.specs.Values.{point_entry}
use Rattle.net_model.proofs.CliqueNodes.{pin_at}
use Rattle.net_model.proofs.JoiningPins.{paired_none, paired_more, paired_self, paired_all}
use Rattle.net_model.proofs.joining.pair_point.Goals as goal
use Rattle.net_model.proofs.joining.pair_point.Goals.{then-pin-node+in_ok-pair_with, else-pin-node}

pub loop-pin-init : goal.loop-pin-init
loop-pin-init c = paired_none c.args.design.now c.args.weight c.args.node (point_entry c.args.point.now)

pub loop-pin-preserved : goal.loop-pin-preserved
loop-pin-preserved c =
    let pin = pin_at c.args.members.now c.loop-pin.pin-index in
    let before = point_entry c.loop-pin.point in
    elim c.if-pin-node.branch [
      | then-pin-node+in_ok-pair_with w ↦
          paired_more c.args.design.now c.args.weight c.args.node c.args.members.now c.loop-pin.pin-index _ _ before _ c.loop-pin-test.true c.loop-pin.invariant
          (ap point_entry w.point-is ∙ w.in_ok-pair_with.ensures c.args.node w.if-pin-node.true)
      | else-pin-node w ↦
          paired_more c.args.design.now c.args.weight c.args.node c.args.members.now c.loop-pin.pin-index _ _ before _ c.loop-pin-test.true c.loop-pin.invariant
          (ap point_entry w.point-is ∙ paired_self c.args.design.now c.args.weight c.args.node pin before c.requires.movable w.if-pin-node.false)
    ]

pub returns : goal.returns
returns c = paired_all c.args.design.now c.args.weight c.args.node c.args.members.now c.loop-pin.pin-index _ _ c.loop-pin-test.false c.loop-pin.invariant

use Rattle.std.proofs.Common.{arith}
use Rattle.net_model.specs.Values.{point_values}
use Rattle.net_model.specs.Forms.Joining.{paired_point}
use Rattle.net_model.proofs.JoiningNets.{member_point, given_first, given_some, given_none, given_last}
use Rattle.net_model.proofs.joining.pair_members.Goals as goal
use Rattle.net_model.proofs.joining.pair_members.Goals.{in-Some+in_ok-pair_point, in_default}

pub loop-pin-init : goal.loop-pin-init
loop-pin-init c = given_first c.args.design.now (paired_point c.args.design.now c.args.weight c.args.members.now) (point_values c.args.points.now)

pub bounds-points-number : goal.bounds-points-number
bounds-points-number c =
    member_point c.args.design.now c.args.members.now c.loop-pin.pin-index _ _ c.requires.good c.loop-pin-test.true c.in-Some.ensures.point (omega (arith, c.loop-pin.auto.points, c.requires.counted))

pub loop-pin-preserved : goal.loop-pin-preserved
loop-pin-preserved c =
    let design = c.args.design.now in
    let members = c.args.members.now in
    let give = paired_point design c.args.weight members in
    elim c.match-point_of.branch [
      | in-Some+in_ok-pair_point w ↦
          given_some design give members c.loop-pin.pin-index _ c.args.points.now c.loop-pin.points _ _ _ c.requires.good c.requires.distinct c.loop-pin-test.true w.in-Some.ensures.point
          (omega (arith, c.requires.counted)) w.in_ok-pair_point.ensures w.points-is c.loop-pin.auto.points c.loop-pin.invariant
      | in_default w ↦ given_none design give members c.loop-pin.pin-index c.args.points.now c.loop-pin.points _ c.loop-pin-test.true w.in_default.ensures.point w.points-is c.loop-pin.invariant
    ]

pub returns : goal.returns
returns c =
    let design = c.args.design.now in
    let members = c.args.members.now in
    let last = given_last design (paired_point design c.args.weight members) members c.loop-pin.pin-index _ _ c.loop-pin-test.false c.loop-pin.invariant in
    record { all = last.all; each = last.each }

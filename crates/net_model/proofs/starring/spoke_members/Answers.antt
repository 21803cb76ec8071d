use Rattle.std.proofs.Common.{ℕ, refl, arith}
use Rattle.net_model.specs.Values.{PointValue, point_values}
use Rattle.net_model.specs.Forms.Stars.{spoked_point}
use Rattle.net_model.proofs.JoiningPins.{same_made}
use Rattle.net_model.proofs.JoiningNets.{member_point, given_first, given_some, given_none, given_last}
use Rattle.net_model.proofs.starring.spoke_members.Goals as goal
use Rattle.net_model.proofs.starring.spoke_members.Goals.{in-Some+in_ok-push, in_default}

pub loop-pin-init : goal.loop-pin-init
loop-pin-init c = given_first c.args.design.now (λ i. spoked_point c.args.weight c.args.number) (point_values c.args.points.now)

pub bounds-points-point : goal.bounds-points-point
bounds-points-point c =
    member_point c.args.design.now c.args.members.now c.loop-pin.pin-index _ _ c.requires.good c.loop-pin-test.true c.in-Some.ensures.point (omega (arith, c.loop-pin.auto.points, c.requires.counted))

pub loop-pin-preserved : goal.loop-pin-preserved
loop-pin-preserved c =
    let design = c.args.design.now in
    let members = c.args.members.now in
    let give : ℕ → PointValue → PointValue = λ i. spoked_point c.args.weight c.args.number in
    elim c.match-point_of.branch [
      | in-Some+in_ok-push w ↦
          given_some design give members c.loop-pin.pin-index _ c.args.points.now c.loop-pin.points _ _ _ c.requires.good c.requires.distinct c.loop-pin-test.true w.in-Some.ensures.point
          c.requires.counted (same_made _ _ _ _ _ w.in_ok-push.ensures.items refl) w.points-is c.loop-pin.auto.points c.loop-pin.invariant
      | in_default w ↦ given_none design give members c.loop-pin.pin-index c.args.points.now c.loop-pin.points _ c.loop-pin-test.true w.in_default.ensures.point w.points-is c.loop-pin.invariant
    ]

pub returns : goal.returns
returns c =
    let design = c.args.design.now in
    let members = c.args.members.now in
    let last = given_last design (λ i. spoked_point c.args.weight c.args.number) members c.loop-pin.pin-index _ _ c.loop-pin-test.false c.loop-pin.invariant in
    record { all = last.all; nodes = last.each; others = λ p above inside. last.others p above }

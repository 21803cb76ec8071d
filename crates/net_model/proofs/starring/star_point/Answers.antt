use Rattle.std.proofs.Common.{◌≢◌, [], length, ◌∙◌, arith}
use Rattle.book_design.specs.WellFormed.{IsGoodPin}
use Rattle.net_model.proofs.CliqueNodes.{pin_at}
use Rattle.net_model.proofs.JoiningPins.{same_made, paired_none, paired_more, paired_all}
use Rattle.net_model.proofs.JoiningNets.{no_point}
use Rattle.net_model.proofs.StarringPoints.{star_by_pairs}
use Rattle.net_model.proofs.starring.star_point.Goals as goal

pub loop-pin-init : goal.loop-pin-init
loop-pin-init c =
    let design = c.args.design.now in
    same_made _ [] _ [] 0 c.new.ensures.items c.new-2.ensures.items ∙ paired_none design c.args.weight (length design.nodes) no_point

pub loop-pin-preserved : goal.loop-pin-preserved
loop-pin-preserved c =
    let design = c.args.design.now in
    let members = c.args.members.now in
    let nodes = length design.nodes in
    let pin = pin_at members c.loop-pin.pin-index in
    let good : IsGoodPin nodes pin = c.requires c.loop-pin.pin-index _ c.loop-pin-test.true in
    let other : pin.node ≢ nodes = omega (arith, good.there) in
    paired_more design c.args.weight nodes members c.loop-pin.pin-index _ no_point _ _ c.loop-pin-test.true c.loop-pin.invariant
    (c.in_ok-pair_with.ensures nodes other)

pub returns : goal.returns
returns c =
    let design = c.args.design.now in
    let nodes = length design.nodes in
    let members = c.args.members.now in
    paired_all design c.args.weight nodes members c.loop-pin.pin-index no_point _ c.loop-pin-test.false c.loop-pin.invariant
    ∙ star_by_pairs design c.args.weight members c.requires

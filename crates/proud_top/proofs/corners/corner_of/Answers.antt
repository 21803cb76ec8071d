use Rattle.std.proofs.Common.{◌∙◌}
use Rattle.proud_top.proofs.Placing.{some_point, spot_same}
use Rattle.proud_top.proofs.corners.corner_of.Goals as goal

pub returns-in-Some-clause-corner : goal.returns-in-Some-clause-corner
returns-in-Some-clause-corner c =
    let nodes = c.args.design.now.nodes in
    let at = some_point nodes c.args.number c.in-Some.point c.requires.there c.in-Some.ensures.point in
    c.spot_of.ensures.spot ∙ spot_same nodes c.args.segments.now c.args.places.now c.args.number c.in-Some.point _ c.requires.places at

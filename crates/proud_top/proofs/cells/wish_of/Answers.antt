use Rattle.std.proofs.Common.{get_or}
use Rattle.proud_top.proofs.Wishing.{wish_is, node_here, node_inside, no_record}
use Rattle.proud_top.proofs.cells.wish_of.Goals as goal

pub returns : goal.returns
returns c =
    let design = c.args.design.now in
    let nodes = c.nodes.result.now in
    let k = c.node_of.result in
    let here = c.node_of.ensures.node in
    wish_is design c.args.level.now c.args.point k (get_or nodes k no_record) _ _ c.corner.result here
    (node_here design nodes k no_record c.nodes.ensures.nodes (node_inside design nodes k c.nodes.ensures.nodes here.there))
    c.as_slice.ensures c.as_slice-2.ensures c.corner.ensures

use Rattle.std.proofs.Common.{ap, rules, arith, pos}
use Rattle.book_design.specs.Values.{NodeValue}
use Rattle.wire_report.proofs.Spots.{node_here, node_good, micro_passed, sign_passed, passed}
use Rattle.wire_report.proofs.lengths.spot_of.Goals as goal

pub beside_centre-requires-clause-size : goal.beside_centre-requires-clause-size
beside_centre-requires-clause-size c =
    let good = node_good c.args.design.now c.nodes.result.now c.args.pin.now.node c.nodes.ensures.valid c.nodes.ensures.nodes c.requires.pin.there in
    micro_passed _ good.width

pub beside_centre-requires-clause-sign : goal.beside_centre-requires-clause-sign
beside_centre-requires-clause-sign c =
    let good = node_good c.args.design.now c.nodes.result.now c.args.pin.now.node c.nodes.ensures.valid c.nodes.ensures.nodes c.requires.pin.there in
    sign_passed _ good.width good.width_sign

pub beside_centre-requires-2-clause-corner : goal.beside_centre-requires-2-clause-corner
beside_centre-requires-2-clause-corner c = micro_passed _ (c.requires.near c.args.pin.now.node (record { x = pos 0; y = pos 0 }) (omega (arith, c.requires.each, c.requires.pin.there))).y

pub beside_centre-requires-2-clause-size : goal.beside_centre-requires-2-clause-size
beside_centre-requires-2-clause-size c =
    let good = node_good c.args.design.now c.nodes.result.now c.args.pin.now.node c.nodes.ensures.valid c.nodes.ensures.nodes c.requires.pin.there in
    micro_passed _ good.height

pub beside_centre-requires-2-clause-sign : goal.beside_centre-requires-2-clause-sign
beside_centre-requires-2-clause-sign c =
    let good = node_good c.args.design.now c.nodes.result.now c.args.pin.now.node c.nodes.ensures.valid c.nodes.ensures.nodes c.requires.pin.there in
    sign_passed _ good.height good.height_sign

pub returns-clause-x : goal.returns-clause-x
returns-clause-x c =
    let design = c.args.design.now in
    let nodes = c.nodes.result.now in
    let pin = c.args.pin.now in
    let good = node_good design nodes pin.node c.nodes.ensures.valid c.nodes.ensures.nodes c.requires.pin.there in
    let same = ap (λ (node : NodeValue). node.width) (node_here design nodes pin.node c.nodes.ensures.nodes c.requires.pin.there) in
    let near = c.requires.near pin.node (record { x = pos 0; y = pos 0 }) (omega (arith, c.requires.each, c.requires.pin.there)) in
    passed _ _ _ _ c.beside_centre.result near.x good.width c.requires.pin.dx (search rules) same c.beside_centre.ensures.place

pub returns-clause-y : goal.returns-clause-y
returns-clause-y c =
    let design = c.args.design.now in
    let nodes = c.nodes.result.now in
    let pin = c.args.pin.now in
    let good = node_good design nodes pin.node c.nodes.ensures.valid c.nodes.ensures.nodes c.requires.pin.there in
    let same = ap (λ (node : NodeValue). node.height) (node_here design nodes pin.node c.nodes.ensures.nodes c.requires.pin.there) in
    let near = c.requires.near pin.node (record { x = pos 0; y = pos 0 }) (omega (arith, c.requires.each, c.requires.pin.there)) in
    passed _ _ _ _ c.beside_centre-2.result near.y good.height c.requires.pin.dy (search rules) same c.beside_centre-2.ensures.place

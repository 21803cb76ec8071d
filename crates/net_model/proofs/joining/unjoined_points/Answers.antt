use Rattle.std.proofs.Common.{◌≡◌, length, ap, ◌∙◌, arith}
use Rattle.std.proofs.lemmas.List.{length-map}
use Rattle.book_design.specs.Values.{node_value}
use Rattle.net_model.specs.Values.{point_entry}
use Rattle.net_model.proofs.JoiningFresh.{movable_is, node_inside, few_before, fresh_pushed, fresh_fixed, next_node, fresh_all}
use Rattle.net_model.proofs.joining.unjoined_points.Goals as goal
use Rattle.net_model.proofs.joining.unjoined_points.Goals.{then-not-node+in_ok-near+in_ok-push, else-not-node}

pub sites_of-area-requires : goal.sites_of-area-requires
sites_of-area-requires c =
    let values = c.args.design.now.nodes in
    let nodes = c.nodes-node-items.result.now in
    let movable = movable_is nodes values _ _ _ c.nodes-node-items.ensures.nodes c.loop-i-test.true c.if-not-node.true in
    let a = c.len.ensures in
    let b = c.loop-i.points.ok in
    omega (arith, few_before values c.loop-i.i (node_inside nodes values _ c.nodes-node-items.ensures.nodes c.loop-i-test.true) movable, c.loop-i.invariant.all, length-map c.loop-i.points.items point_entry)

pub loop-i-preserved : goal.loop-i-preserved
loop-i-preserved c =
    let design = c.args.design.now in
    let nodes = c.nodes-node-items.result.now in
    let inside = node_inside nodes design.nodes _ c.nodes-node-items.ensures.nodes c.loop-i-test.true in
    elim c.if-not-node.branch [
      | then-not-node+in_ok-near+in_ok-push w ↦
          let movable = movable_is nodes design.nodes _ _ _ c.nodes-node-items.ensures.nodes c.loop-i-test.true w.if-not-node.true in
          let len : w.len.result ≡ length c.loop-i.points.items = w.len.ensures ∙ c.loop-i.points.ok.0 in
          let area = w.sites_of-area.ensures.sites c.loop-i.i (next_node design _ c.loop-i.points.items _ inside movable len c.loop-i.invariant) in
          rw w.points-is (fresh_pushed design _ c.loop-i.points.items _ _ inside movable w.in_ok-push.ensures.items
          (record { near = w.in_ok-near.ensures.items; pins = w.new-pins.ensures.items; area = area }) c.loop-i.invariant)
      | else-not-node w ↦
          let fixed = movable_is nodes design.nodes _ _ _ c.nodes-node-items.ensures.nodes c.loop-i-test.true w.if-not-node.false in
          rw w.points-is (fresh_fixed design _ _ inside fixed c.loop-i.invariant)
    ]

pub returns : goal.returns
returns c =
    let values = c.args.design.now.nodes in
    let nodes = c.nodes-node-items.result.now in
    let end : c.loop-i.i ≡ length values = omega (arith, c.loop-i-test.false, c.loop-i.auto.i-end, length-map nodes node_value, ap length c.nodes-node-items.ensures.nodes) in
    fresh_all c.args.design.now c.loop-i.i _ end c.loop-i.invariant

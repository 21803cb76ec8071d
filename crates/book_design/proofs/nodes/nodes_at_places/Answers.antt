use Rattle.std.proofs.Common.{◌∙◌, get_or, ap}
use Rattle.book_files.specs.Entries.{node_entry}
use Rattle.book_design.specs.Joined.{joined_node, placed}
use Rattle.book_design.specs.Values.{node_value}
use Rattle.book_design.specs.Forms.Sources.{records_of}
use Rattle.book_design.proofs.Building.{built_more, built_whole}
use Rattle.book_design.proofs.Placing.{no_line}
use Rattle.book_design.proofs.nodes.nodes_at_places.Goals as goal

pub loop-node-preserved : goal.loop-node-preserved
loop-node-preserved c =
    built_more node_value (λ line. joined_node (records_of c.args.records.now) (node_entry line)) c.args.records.now.nodes.now c.loop-node.node-index _ c.loop-node.nodes.items c.push.new.self.items c.placed_node.result
    c.loop-node-test.true c.loop-node.invariant c.in_ok-push.ensures.items (c.placed_node.ensures ∙ ap (placed (node_entry (get_or c.args.records.now.nodes.now c.loop-node.node-index no_line))) c.place_of-place.ensures)

pub returns : goal.returns
returns c = built_whole (joined_node (records_of c.args.records.now)) node_entry c.args.records.now.nodes.now c.loop-node.node-index _ c.loop-node-test.false c.loop-node.invariant

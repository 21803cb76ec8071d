use Rattle.std.proofs.Common.{◌≡◌, ◌∙◌, get_or, sym, ap, arith, length, map, not}
use Rattle.std.proofs.lemmas.Bool.{false≢true}
use Rattle.std.proofs.lemmas.List.{get_or-map, length-map}
use Rattle.book_files.specs.Entries.{NodeEntry, node_entry, place_entry}
use Rattle.book_design.specs.Joined.{joined_node, placed}
use Rattle.book_design.specs.Values.{node_value, node_values}
use Rattle.book_design.specs.Forms.Sources.{records_of}
use Rattle.book_design.proofs.Building.{built_more, built_whole}
use Rattle.book_design.proofs.Placing.{no_line, without_place, with_place, positioned_more}
use Rattle.book_design.proofs.nodes.join_nodes.Goals as goal
use Rattle.book_design.proofs.nodes.join_nodes.Goals.{else-node-via-then-node+else-is_none, else-node-via-else-node}

pub loop-i-init : goal.loop-i-init
loop-i-init c = record { nodes = ap node_values c.new-nodes.ensures.items; positioned = λ j below h. absurd (omega arith) }

pub returns-then-is_none : goal.returns-then-is_none
returns-then-is_none c =
    let here = get_or-map node_entry c.args.records.now.nodes.now c.loop-i.i _ _ c.loop-i-test.true in
    let e : length c.args.records.now.nodes.now ≡ length (map node_entry c.args.records.now.nodes.now) = sym (length-map c.args.records.now.nodes.now node_entry) in
    without_place (records_of c.args.records.now) c.loop-i.i _ place_entry c.place_of-place.result (omega (arith, c.loop-i-test.true)) here c.place_of-place.ensures c.if-node.true (c.is_none.ensures ∙ ap not c.if-is_none.true) c.loop-i.invariant.positioned

pub loop-i-preserved : goal.loop-i-preserved
loop-i-preserved c =
    let here = get_or-map node_entry c.args.records.now.nodes.now c.loop-i.i _ _ c.loop-i-test.true in
    record {
      nodes = built_more node_value (λ line. joined_node (records_of c.args.records.now) (node_entry line)) c.args.records.now.nodes.now c.loop-i.i _ c.loop-i.nodes.items c.push.new.self.items c.placed_node.result c.loop-i-test.true c.loop-i.invariant.nodes c.in_ok-push.ensures.items (c.placed_node.ensures ∙ ap (placed (node_entry (get_or c.args.records.now.nodes.now c.loop-i.i no_line))) c.place_of-place.ensures);
      positioned = positioned_more (records_of c.args.records.now) c.loop-i.i c.loop-i.invariant.positioned (λ h. elim c.else-node.branch [
        | else-node-via-then-node+else-is_none w ↦ with_place (records_of c.args.records.now) c.loop-i.i _ place_entry c.place_of-place.result here c.place_of-place.ensures (w.is_none.ensures ∙ ap not w.if-is_none.false) h
        | else-node-via-else-node w ↦ false≢true (sym w.if-node.false ∙ (sym (ap (λ (n : NodeEntry). n.fixed) here) ∙ h.fixed))
      ]);
    }

pub returns : goal.returns
returns c =
    let e : length c.args.records.now.nodes.now ≡ length (map node_entry c.args.records.now.nodes.now) = sym (length-map c.args.records.now.nodes.now node_entry) in
    (λ j h. c.loop-i.invariant.positioned j (let t = h.there in omega (arith, c.loop-i-test.false)) h, built_whole (joined_node (records_of c.args.records.now)) node_entry c.args.records.now.nodes.now c.loop-i.i _ c.loop-i-test.false c.loop-i.invariant.nodes)

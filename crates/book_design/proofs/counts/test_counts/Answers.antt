use Rattle.std.proofs.Common.{sym, subst, length}
use Rattle.book_design.specs.declared.fault.DesignFault.{DesignFault}
use Rattle.book_design.specs.Values.{node_values}
use Rattle.book_design.specs.Forms.Sources.{records_of}
use Rattle.book_design.specs.Forms.Steps.{IsFirstFrom}
use Rattle.book_design.proofs.Counting.{tall_first, none_tall, nodes_counted, subrows_counted, past_nodes, past_pins, past_subrows, few_nodes, few_pins, few_subrows}
use Rattle.book_design.proofs.counts.test_counts.Goals as goal

pub returns-in-Some : goal.returns-in-Some
returns-in-Some c =
    let records = records_of c.args.records.now in
    tall_first records c.args.shape.now (node_values c.args.nodes.now) c.in-Some.node c.requires.shape c.requires.nodes c.in-Some.ensures

pub returns-then-nodes-gt-MOST_NODES : goal.returns-then-nodes-gt-MOST_NODES
returns-then-nodes-gt-MOST_NODES c =
    let records = records_of c.args.records.now in
    let P : DesignFault → Type 0 = λ fault. IsFirstFrom records 7 fault in
    let low = none_tall records c.args.shape.now (node_values c.args.nodes.now) c.requires.shape c.requires.nodes c.in_default.ensures in
    subst P (sym c.past_limit.ensures)
    (past_nodes records (length c.args.nodes.now) low (nodes_counted records c.args.nodes.now c.requires.nodes) c.if-nodes-gt-MOST_NODES.true)

pub returns-then-pins-gt-MOST_PINS : goal.returns-then-pins-gt-MOST_PINS
returns-then-pins-gt-MOST_PINS c =
    let records = records_of c.args.records.now in
    let P : DesignFault → Type 0 = λ fault. IsFirstFrom records 7 fault in
    let low = none_tall records c.args.shape.now (node_values c.args.nodes.now) c.requires.shape c.requires.nodes c.in_default.ensures in
    let nodes = few_nodes records (length c.args.nodes.now) low (nodes_counted records c.args.nodes.now c.requires.nodes) c.if-nodes-gt-MOST_NODES.false in
    subst P (sym c.past_limit-then-pins-gt-MOST_PINS.ensures)
    (past_pins records c.args.pins nodes c.requires.pins c.if-pins-gt-MOST_PINS.true)

pub returns-then-subrows-gt-MOST_SUBROWS : goal.returns-then-subrows-gt-MOST_SUBROWS
returns-then-subrows-gt-MOST_SUBROWS c =
    let records = records_of c.args.records.now in
    let P : DesignFault → Type 0 = λ fault. IsFirstFrom records 7 fault in
    let low = none_tall records c.args.shape.now (node_values c.args.nodes.now) c.requires.shape c.requires.nodes c.in_default.ensures in
    let nodes = few_nodes records (length c.args.nodes.now) low (nodes_counted records c.args.nodes.now c.requires.nodes) c.if-nodes-gt-MOST_NODES.false in
    let pins = few_pins records c.args.pins nodes c.requires.pins c.if-pins-gt-MOST_PINS.false in
    subst P (sym c.past_limit-then-subrows-gt-MOST_SUBROWS.ensures)
    (past_subrows records (length c.args.strips.now) pins (subrows_counted records c.args.strips.now c.requires.strips) c.if-subrows-gt-MOST_SUBROWS.true)

pub returns : goal.returns
returns c =
    let records = records_of c.args.records.now in
    let low = none_tall records c.args.shape.now (node_values c.args.nodes.now) c.requires.shape c.requires.nodes c.in_default.ensures in
    let nodes = few_nodes records (length c.args.nodes.now) low (nodes_counted records c.args.nodes.now c.requires.nodes) c.if-nodes-gt-MOST_NODES.false in
    let pins = few_pins records c.args.pins nodes c.requires.pins c.if-pins-gt-MOST_PINS.false in
    few_subrows records (length c.args.strips.now) pins (subrows_counted records c.args.strips.now c.requires.strips) c.if-subrows-gt-MOST_SUBROWS.false

use Rattle.std.proofs.Common.{◌≡◌, length, sym, ap, arith, map}
use Rattle.std.proofs.lemmas.List.{get_or-map, length-map}
use Rattle.book_files.specs.Entries.{NodeEntry, node_entry}
use Rattle.book_design.specs.Forms.Sources.{records_of, node_name}
use Rattle.book_design.proofs.Looking.{no_numbers, duplicate, distinct_more, distinct_whole}
use Rattle.book_design.proofs.numbers.node_numbers.Goals as goal

pub loop-i-init : goal.loop-i-init
loop-i-init c = record {
  distinct = λ j below earlier. absurd (omega arith);
  numbered = no_numbers (node_name (records_of c.args.records.now)) c.new-numbers.result c.new-numbers.ensures.empty;
}

pub returns-then-is_some : goal.returns-then-is_some
returns-then-is_some c =
    let here = get_or-map node_entry c.args.records.now.nodes.now c.loop-i.i _ _ c.loop-i-test.true in
    let e : length c.args.records.now.nodes.now ≡ length (map node_entry c.args.records.now.nodes.now) = sym (length-map c.args.records.now.nodes.now node_entry) in
    duplicate (records_of c.args.records.now) c.loop-i.i c.loop-i.numbers _ _ c.in_ok-before.before c.loop-i.invariant c.in_ok-before.ensures.before (sym c.if-is_some.ensures) (omega (arith, c.loop-i-test.true)) (sym (ap (λ (n : NodeEntry). n.name) here)) (sym (ap (λ (n : NodeEntry). n.line) here))

pub loop-i-preserved : goal.loop-i-preserved
loop-i-preserved c =
    distinct_more (records_of c.args.records.now) c.loop-i.i c.loop-i.numbers c.put.new.numbers _ c.in_ok-before.before c.loop-i.invariant c.in_ok-before.ensures.before (sym c.if-is_some.ensures) c.in_ok-before.ensures.after (sym (ap (λ (n : NodeEntry). n.name) (get_or-map node_entry c.args.records.now.nodes.now c.loop-i.i _ _ c.loop-i-test.true)))

pub returns : goal.returns
returns c =
    let e : length c.args.records.now.nodes.now ≡ length (map node_entry c.args.records.now.nodes.now) = sym (length-map c.args.records.now.nodes.now node_entry) in
    distinct_whole (records_of c.args.records.now) c.loop-i.i c.loop-i.numbers (omega arith) c.loop-i.invariant

use Rattle.std.proofs.Common.{rules, arith, List, Ok, Err}
use Rattle.std.proofs.lemmas.Grind.{common_steps}
use Rattle.book_files.specs.Entries.{NodeEntry, node_entries}
use Rattle.book_files.specs.Forms.Nodes.{node_form}
use Rattle.book_files.specs.NodeRules.{nodes_grammar}
use Rattle.book_files.proofs.Bridge.{answers_of}
use Rattle.book_files.proofs.NodeDecides.{nodes_decided}
use Rattle.book_files.proofs.GoodNodes.{nodes_few, nodes_good}
use Rattle.book_files.proofs.nodes.read_nodes.Goals as goal

pub returns-in_err-keep_lines-clause-reading : goal.returns-in_err-keep_lines-clause-reading
returns-in_err-keep_lines-clause-reading c = answers_of node_form nodes_grammar nodes_decided (λ (file : List NodeEntry). file) c.args.bytes.now c.from_residual.result (search rules)

pub invariant_of-result : goal.invariant_of-result
invariant_of-result c = nodes_good c.args.bytes.now (node_entries c.keep_lines.new.progress.lines.items) (c.spaced_words.ensures.found 1 c.args.bytes.now) (grind (arith, common_steps))

pub returns-in-None-clause-reading : goal.returns-in-None-clause-reading
returns-in-None-clause-reading c =
    answers_of node_form nodes_grammar nodes_decided (λ (file : List NodeEntry). file) c.args.bytes.now (Ok (node_entries c.keep_lines.new.progress.lines.items)) (grind (arith, common_steps))

pub returns-in-None-clause-few : goal.returns-in-None-clause-few
returns-in-None-clause-few c = nodes_few c.args.bytes.now (node_entries c.keep_lines.new.progress.lines.items) (grind (arith, common_steps))

pub returns-clause-reading : goal.returns-clause-reading
returns-clause-reading c = answers_of node_form nodes_grammar nodes_decided (λ (file : List NodeEntry). file) c.args.bytes.now (Err c.fault_at_end.result) (grind (arith, common_steps))

use Rattle.std.proofs.Common.{List, Ok, Err, rules, arith}
use Rattle.book_files.specs.Entries.{NetEntry}
use Rattle.book_files.specs.Forms.Nets.{net_form}
use Rattle.book_files.specs.NetRules.{nets_grammar}
use Rattle.book_files.proofs.Bridge.{answers_of}
use Rattle.book_files.proofs.NetDecides.{nets_decided}
use Rattle.book_files.proofs.GoodNets.{nets_few, nets_good, finished, failed}
use Rattle.book_files.proofs.nets.read_nets.Goals as goal

pub returns-in_err-keep_lines-clause-reading : goal.returns-in_err-keep_lines-clause-reading
returns-in_err-keep_lines-clause-reading c = answers_of net_form nets_grammar nets_decided {A = List NetEntry} (λ file. file) c.args.bytes.now c.from_residual.result (search rules)

pub returns-in-Err-clause-reading : goal.returns-in-Err-clause-reading
returns-in-Err-clause-reading c = answers_of net_form nets_grammar nets_decided {A = List NetEntry} (λ file. file) c.args.bytes.now (Err c.fault_at_end.result)
    (rw c.fault_at_end.ensures (failed c.args.bytes.now c.keep_lines.new.progress (omega arith) c.in_ok-keep_lines.ensures c.in-Err.kind c.in-Err.ensures))

pub invariant_of-result : goal.invariant_of-result
invariant_of-result c = rw c.in_ok-into_blocks.ensures (nets_good c.args.bytes.now _ (finished c.args.bytes.now c.keep_lines.new.progress (omega arith) c.in_ok-keep_lines.ensures c.in_default.ensures))

pub returns-clause-reading : goal.returns-clause-reading
returns-clause-reading c = answers_of net_form nets_grammar nets_decided {A = List NetEntry} (λ file. file) c.args.bytes.now (Ok _)
    (rw c.in_ok-into_blocks.ensures (finished c.args.bytes.now c.keep_lines.new.progress (omega arith) c.in_ok-keep_lines.ensures c.in_default.ensures))

pub returns-clause-few : goal.returns-clause-few
returns-clause-few c = rw c.in_ok-into_blocks.ensures (nets_few c.args.bytes.now _ (finished c.args.bytes.now c.keep_lines.new.progress (omega arith) c.in_ok-keep_lines.ensures c.in_default.ensures))

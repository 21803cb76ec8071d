use Rattle.std.proofs.Common.{rules, List, Ok, Err}
use Rattle.book_files.specs.Entries.{WeightEntry, weight_entries}
use Rattle.book_files.specs.Forms.Weights.{weight_form}
use Rattle.book_files.specs.WeightRules.{weights_grammar}
use Rattle.book_files.proofs.Bridge.{answers_of}
use Rattle.book_files.proofs.WeightDecides.{weights_decided}
use Rattle.book_files.proofs.GoodWeights.{weights_few, weights_good}
use Rattle.book_files.proofs.weights.read_wts.Goals as goal

pub returns-in_err-keep_lines-clause-reading : goal.returns-in_err-keep_lines-clause-reading
returns-in_err-keep_lines-clause-reading c = answers_of weight_form weights_grammar weights_decided (λ (file : List WeightEntry). file) c.args.bytes.now c.from_residual.result (search rules)

pub invariant_of-result : goal.invariant_of-result
invariant_of-result c = weights_good c.args.bytes.now (weight_entries c.keep_lines.new.progress.lines.items) (search rules)

pub returns-then-so_far-clause-reading : goal.returns-then-so_far-clause-reading
returns-then-so_far-clause-reading c =
    answers_of weight_form weights_grammar weights_decided (λ (file : List WeightEntry). file) c.args.bytes.now (Ok (weight_entries c.keep_lines.new.progress.lines.items)) (search rules)

pub returns-then-so_far-clause-few : goal.returns-then-so_far-clause-few
returns-then-so_far-clause-few c = weights_few c.args.bytes.now (weight_entries c.keep_lines.new.progress.lines.items) (search rules)

pub returns-clause-reading : goal.returns-clause-reading
returns-clause-reading c = answers_of weight_form weights_grammar weights_decided (λ (file : List WeightEntry). file) c.args.bytes.now (Err c.fault_at_end.result) (search rules)

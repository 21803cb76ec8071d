use Rattle.std.proofs.lemmas.Result.{err_from_is_err_and}
use Rattle.book_design.specs.Forms.Sources.{records_of}
use Rattle.book_design.proofs.Ranks.{stops_later, first_later, free_names, free_two, free_three, free_rows, free_six, free_both}
use Rattle.book_design.proofs.join.join_files.Goals as goal

pub returns-in_err-nets : goal.returns-in_err-nets
returns-in_err-nets c =
    let p = err_from_is_err_and c.from_residual-in_err-nets.result c.from_residual-in_err-nets.ensures.1 in
    rw (p.1, p.2) (stops_later (records_of c.args.records.now) 1 2 _ (free_names _ c.in_ok-numbers.ensures.0) c.in_err-nets.ensures)

pub returns-in_err-nodes : goal.returns-in_err-nodes
returns-in_err-nodes c =
    let p = err_from_is_err_and c.from_residual-in_err-nodes.result c.from_residual-in_err-nodes.ensures.1 in
    rw (p.1, p.2) (stops_later (records_of c.args.records.now) 1 3 _ (free_two _ c.in_ok-numbers.ensures.0 c.in_ok-nets.ensures.0) c.in_err-nodes.ensures)

pub returns-in_err-shape : goal.returns-in_err-shape
returns-in_err-shape c =
    let p = err_from_is_err_and c.from_residual-in_err-shape.result c.from_residual-in_err-shape.ensures.1 in
    rw (p.1, p.2) (first_later (records_of c.args.records.now) 1 4 _ (free_three _ c.in_ok-numbers.ensures.0 c.in_ok-nets.ensures.0 c.in_ok-nodes.ensures.0) c.in_err-shape.ensures)

pub returns-in_err-test_apart : goal.returns-in_err-test_apart
returns-in_err-test_apart c =
    let p = err_from_is_err_and c.from_residual-in_err-test_apart.result c.from_residual-in_err-test_apart.ensures.1 in
    rw (p.1, p.2) (stops_later (records_of c.args.records.now) 1 6 _ (free_both _ 1 4 6 (free_three _ c.in_ok-numbers.ensures.0 c.in_ok-nets.ensures.0 c.in_ok-nodes.ensures.0) (free_rows _ c.in_ok-shape.ensures.some c.in_ok-shape.ensures.even)) c.in_err-test_apart.ensures)

pub returns-in_err-test_counts : goal.returns-in_err-test_counts
returns-in_err-test_counts c =
    let p = err_from_is_err_and c.from_residual-in_err-test_counts.result c.from_residual-in_err-test_counts.ensures.1 in
    rw (p.1, p.2) (first_later (records_of c.args.records.now) 1 7 _ (free_six _ (free_three _ c.in_ok-numbers.ensures.0 c.in_ok-nets.ensures.0 c.in_ok-nodes.ensures.0) c.in_ok-shape.ensures.some c.in_ok-shape.ensures.even c.in_ok-test_apart.ensures) c.in_err-test_counts.ensures)

pub returns-in_err-test_values : goal.returns-in_err-test_values
returns-in_err-test_values c =
    let p = err_from_is_err_and c.from_residual-in_err-test_values.result c.from_residual-in_err-test_values.ensures.1 in
    rw (p.1, p.2) (first_later (records_of c.args.records.now) 1 11 _ (free_both _ 1 7 11 (free_six _ (free_three _ c.in_ok-numbers.ensures.0 c.in_ok-nets.ensures.0 c.in_ok-nodes.ensures.0) c.in_ok-shape.ensures.some c.in_ok-shape.ensures.even c.in_ok-test_apart.ensures) c.in_ok-test_counts.ensures) c.in_err-test_values.ensures)

pub assemble-requires-clause-shape : goal.assemble-requires-clause-shape
assemble-requires-clause-shape c = c.in_ok-shape.ensures.first

pub assemble-requires-clause-free : goal.assemble-requires-clause-free
assemble-requires-clause-free c = record { free = free_both _ 1 11 14 (free_both _ 1 7 11 (free_six _ (free_three _ c.in_ok-numbers.ensures.0 c.in_ok-nets.ensures.0 c.in_ok-nodes.ensures.0) c.in_ok-shape.ensures.some c.in_ok-shape.ensures.even c.in_ok-test_apart.ensures) c.in_ok-test_counts.ensures) c.in_ok-test_values.ensures; some = c.in_ok-shape.ensures.some }

pub returns : goal.returns
returns c = (free_both _ 1 11 14 (free_both _ 1 7 11 (free_six _ (free_three _ c.in_ok-numbers.ensures.0 c.in_ok-nets.ensures.0 c.in_ok-nodes.ensures.0) c.in_ok-shape.ensures.some c.in_ok-shape.ensures.even c.in_ok-test_apart.ensures) c.in_ok-test_counts.ensures) c.in_ok-test_values.ensures, c.in_ok-assemble.ensures)

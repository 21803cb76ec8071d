use Rattle.std.specs.Prelude.{Some, None}
use Rattle.grid_design.specs.Asked.{IsGridWord}
use Rattle.grid_design.proofs.Commas.{first_cut, second_cut}
use Rattle.grid_design.proofs.asked.read_grid.Goals as goal

pub returns-in_err-rows : goal.returns-in_err-rows
returns-in_err-rows c = rw c.from_residual.ensures (λ grid is. first_cut c.args.word.now grid None c.in_err-rows.ensures.cases is)

pub returns-in_err-columns : goal.returns-in_err-columns
returns-in_err-columns c = rw c.from_residual-in_err-columns.ensures (λ grid is.
    let first = first_cut c.args.word.now grid (Some (c.in_ok-rows.rows, c.in_ok-rows.rest)) c.in_ok-rows.ensures.cases is in
    second_cut c.in_ok-rows.rest.now grid.columns grid.number None c.in_err-columns.ensures.cases (IsGridWord.columns is) first.1)

pub returns-in_err-read_side : goal.returns-in_err-read_side
returns-in_err-read_side c = rw c.from_residual-in_err-read_side.ensures (λ grid is.
    let first = first_cut c.args.word.now grid (Some (c.in_ok-rows.rows, c.in_ok-rows.rest)) c.in_ok-rows.ensures.cases is in
    c.in_err-read_side.ensures grid.rows (IsGridWord.rows is) first.0)

pub returns-in_err-read_side-2 : goal.returns-in_err-read_side-2
returns-in_err-read_side-2 c = rw c.from_residual-in_err-read_side-2.ensures (λ grid is.
    let first = first_cut c.args.word.now grid (Some (c.in_ok-rows.rows, c.in_ok-rows.rest)) c.in_ok-rows.ensures.cases is in
    let second = second_cut c.in_ok-rows.rest.now grid.columns grid.number (Some (c.in_ok-columns.columns, c.in_ok-columns.number)) c.in_ok-columns.ensures.cases (IsGridWord.columns is) first.1 in
    c.in_err-read_side-2.ensures grid.columns (IsGridWord.columns is) second.0)

pub returns-in_err-read_decimal : goal.returns-in_err-read_decimal
returns-in_err-read_decimal c = rw c.from_residual-in_err-read_decimal.ensures (λ grid is.
    let first = first_cut c.args.word.now grid (Some (c.in_ok-rows.rows, c.in_ok-rows.rest)) c.in_ok-rows.ensures.cases is in
    let second = second_cut c.in_ok-rows.rest.now grid.columns grid.number (Some (c.in_ok-columns.columns, c.in_ok-columns.number)) c.in_ok-columns.ensures.cases (IsGridWord.columns is) first.1 in
    c.in_err-read_decimal.ensures grid.number (IsGridWord.number is) second.1)

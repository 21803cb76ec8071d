use Rattle.std.proofs.Common.{sym, ◌∙◌}
use Rattle.std.proofs.lemmas.Result.{err_from_is_err_and}
use Rattle.book_files.proofs.AuxSteps.{first_refused, first_kept}
use Rattle.book_files.proofs.aux.AuxSoFarProgress.keep.Goals as goal

pub returns-in_err-aux_line : goal.returns-in_err-aux_line
returns-in_err-aux_line c = let p = err_from_is_err_and c.from_residual.result c.from_residual.ensures.1 in
    rw (p.1, p.2) (first_refused _ c.args.self.now _ (sym c.is_some.ensures ∙ c.if-is_some.false) (c.in_err-aux_line.ensures c.args._number))

pub returns : goal.returns
returns c = first_kept _ c.args.self.now c.in_ok-aux_line.field-0 (sym c.is_some.ensures ∙ c.if-is_some.false) (c.in_ok-aux_line.ensures c.args._number)

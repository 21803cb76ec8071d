use Rattle.std.proofs.Common.{refl, sym, ◌∙◌}
use Rattle.book_files.proofs.RowSteps.{header_kept, total_kept, begun_kept, part_kept, end_kept, end_fails, part_fails}
use Rattle.book_files.proofs.rows.RowsSoFarProgress.keep.Goals as goal

pub returns-then-not-self : goal.returns-then-not-self
returns-then-not-self c = header_kept _ c.args.self.now _ c.if-not-self.true (sym c.is_header.ensures ∙ c.if-not-is_header.false) refl refl refl refl

pub returns-in_err-row-in-Some : goal.returns-in_err-row-in-Some
returns-in_err-row-in-Some c = let gives = c.from_residual-in_err-row-in-Some.ensures in end_fails _ c.args.self.now _ c.in-Some.block c.in_err-row-in-Some.field-0.0 _ gives.0 gives.1 c.if-not-self.false (sym c.take.ensures.value ∙ c.in-Some.is)
    (sym c.is_row_end.ensures ∙ c.if-is_row_end.true) c.in_err-row-in-Some.ensures

pub returns-in_err-with-in-Some : goal.returns-in_err-with-in-Some
returns-in_err-with-in-Some c = let gives = c.from_residual-in_err-with-in-Some.ensures in part_fails _ c.args.self.now _ c.in-Some.block c.in_err-with-in-Some.field-0.0 _ gives.0 gives.1 c.if-not-self.false (sym c.take.ensures.value ∙ c.in-Some.is)
    (sym c.is_row_end.ensures ∙ c.if-is_row_end.false) c.in_err-with-in-Some.ensures

pub returns-in_ok-count_of-in-None : goal.returns-in_ok-count_of-in-None
returns-in_ok-count_of-in-None c = total_kept _ c.args.self.now _ c.in_ok-count_of-in-None.field-0 c.if-not-self.false (sym c.take.ensures.value ∙ c.in-None.is)
    (sym c.is_keyed.ensures ∙ c.if-is_keyed.true) (rw c.is_some.ensures at c.in_ok-count_of-in-None.ensures) c.if-not-self.false refl c.take.ensures.after refl

pub returns-then-is_row_start : goal.returns-then-is_row_start
returns-then-is_row_start c = begun_kept _ c.args.self.now _ c.new.result c.if-not-self.false (sym c.take.ensures.value ∙ c.in-None.is)
    (sym c.is_keyed.ensures ∙ c.if-is_keyed.false) (sym c.is_row_start.ensures ∙ c.if-is_row_start.true) c.new.ensures c.if-not-self.false refl refl refl

pub returns-in_ok-push-in-Some : goal.returns-in_ok-push-in-Some
returns-in_ok-push-in-Some c = end_kept _ c.args.self.now _ c.in-Some.block c.in_ok-row-in-Some.field-0 c.if-not-self.false (sym c.take.ensures.value ∙ c.in-Some.is)
    (sym c.is_row_end.ensures ∙ c.if-is_row_end.true) c.in_ok-row-in-Some.ensures c.if-not-self.false refl c.take.ensures.after c.in_ok-push-in-Some.ensures.items

pub returns-in_ok-with-in-Some : goal.returns-in_ok-with-in-Some
returns-in_ok-with-in-Some c = part_kept _ c.args.self.now _ c.in-Some.block c.in_ok-with-in-Some.field-0 c.if-not-self.false (sym c.take.ensures.value ∙ c.in-Some.is)
    (sym c.is_row_end.ensures ∙ c.if-is_row_end.false) c.in_ok-with-in-Some.ensures c.if-not-self.false refl refl refl

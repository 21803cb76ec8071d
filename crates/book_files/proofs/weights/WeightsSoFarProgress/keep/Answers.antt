use Rattle.std.proofs.Common.{refl, sym, ◌∙◌}
use Rattle.book_files.proofs.WeightSteps.{header_kept, weight_kept}
use Rattle.book_files.proofs.weights.WeightsSoFarProgress.keep.Goals as goal

pub returns-in_ok-push : goal.returns-in_ok-push
returns-in_ok-push c = weight_kept _ c.args.self.now _ c.in_ok-weight_of.field-0 c.if-self.true c.in_ok-weight_of.ensures c.if-self.true c.in_ok-push.ensures.items

pub returns-then-is_header : goal.returns-then-is_header
returns-then-is_header c = header_kept _ c.args.self.now _ c.if-self.false (sym c.is_header.ensures ∙ c.if-is_header.true) refl refl

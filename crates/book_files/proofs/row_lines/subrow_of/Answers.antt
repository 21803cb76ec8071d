use Rattle.std.proofs.Common.{arith, sym, ◌∙◌}
use Rattle.std.proofs.lemmas.Bool.{ltb-true, ltb-false}
use Rattle.book_files.specs.Forms.Progress.{Gives}
use Rattle.book_files.specs.Entries.{subrow_entry}
use Rattle.book_files.proofs.RowLines.{subrow_of-six, subrow_of-short, subrow_of-long}
use Rattle.book_files.proofs.row_lines.subrow_of.Goals as goal

pub returns-then-is_subrow : goal.returns-then-is_subrow
returns-then-is_subrow c = subrow_of-six (λ w. w.now) (Gives subrow_entry c.subrow_at.result) c.args.words.now _ (omega (arith, ltb-false)) (omega (arith, ltb-true)) (sym c.is_subrow.ensures ∙ c.if-is_subrow.true) c.subrow_at.ensures

pub returns-in_default : goal.returns-in_default
returns-in_default c = subrow_of-short (λ w. w.now) c.args.words.now (omega (arith, ltb-true))

pub returns-in_default-2 : goal.returns-in_default-2
returns-in_default-2 c = subrow_of-long (λ w. w.now) c.args.words.now (omega (arith, ltb-false))

use Rattle.std.proofs.Common.{ℕ, eq-eqb, arith}
use Rattle.std.proofs.lemmas.Bool.{cond-true, cond-false, ne_eqb}
use Rattle.book_text.proofs.TextLines.{open_lines-last, length-lines_of}
use Rattle.book_text.proofs.line.count_lines.Goals as goal

pub returns-in-len1-up : goal.returns-in-len1-up
returns-in-len1-up c = let text = c.args.text.now in
    omega (arith, length-lines_of text, open_lines-last text c.in-len1-up.len_at_least, cond-false {A = ℕ} _ 0 1 (ne_eqb _ 10 c.if-last-ne-LINE_END.true), c.line_ends-ends.ensures.count)

pub returns-in_default-2 : goal.returns-in_default-2
returns-in_default-2 c = let text = c.args.text.now in
    omega (arith, length-lines_of text, open_lines-last text c.in-len1-up.len_at_least, cond-true {A = ℕ} _ 0 1 (eq-eqb _ 10 c.if-last-ne-LINE_END.false), c.line_ends-ends.ensures.count)

use Rattle.std.proofs.Common.{◌==◌, not, get_or, ap, sym, ◌∙◌, arith}
use Rattle.std.specs.List.{slice_range, prefix_len}
use Rattle.std.proofs.lemmas.Bool.{le-ltb}
use Rattle.std.proofs.lemmas.List.Sums.{prefix_len-le-length}
use Rattle.book_text.specs.Lines.{is_blank}
use Rattle.book_text.proofs.Places.{length-slice_range, get_or-slice_range}
use Rattle.book_text.proofs.TextLines.{has_content-blank, has_content-behind_blanks}
use Rattle.book_text.proofs.line.is_kept.Goals as goal

pub returns-then-first-to : goal.returns-then-first-to
returns-then-first-to c =
    let text = c.args.text.now in let from = c.args.from in let to = c.args.to in let line = slice_range text from to in let n = prefix_len is_blank line in
    ap (λ b. not (b == 35)) (ap (λ i. get_or text i 0) c.behind_blanks-first.ensures.place ∙ sym (get_or-slice_range text from to n (omega arith)))
    ∙ sym (has_content-behind_blanks line (omega (arith, length-slice_range text from to c.requires.within)))

pub returns-else-first-to : goal.returns-else-first-to
returns-else-first-to c =
    let text = c.args.text.now in let from = c.args.from in let to = c.args.to in let line = slice_range text from to in
    le-ltb c.behind_blanks-first.result to c.if-first-to.false
    ∙ sym (has_content-blank line (omega (arith, prefix_len-le-length is_blank line, length-slice_range text from to c.requires.within)))

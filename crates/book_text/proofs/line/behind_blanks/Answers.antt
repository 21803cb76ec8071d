use Rattle.std.proofs.Common.{◌+◌, not, ap, arith, rules, tests, ◌∙◌}
use Rattle.std.specs.List.{slice_range}
use Rattle.std.proofs.lemmas.Iterator.{YieldsList-from_slice}
use Rattle.std.proofs.lemmas.Iterator.Search.{position_from_yields_List}
use Rattle.book_text.proofs.Places.{length-slice_range}
use Rattle.book_text.proofs.Prefixes.{passed-some, passed-none, prefix_len-not_not}
use Rattle.book_text.specs.Lines.{is_blank}
use Rattle.book_text.proofs.line.behind_blanks.Goals as goal

pub returns-in-Some-clause-place : goal.returns-in-Some-clause-place
returns-in-Some-clause-place c =
    let part = slice_range c.args.text.now c.args.from c.args.to in
    let found = position_from_yields_List (λ b. not (is_blank b)) _ _ _ c.in-Some.ensures.ran (YieldsList-from_slice part cc) (λ x b q k. search (rules, tests)) in
    ap (λ n. c.args.from + n) (passed-some (λ b. not (not (is_blank b))) part c.in-Some.passed found ∙ prefix_len-not_not is_blank part)

pub returns-in-None-clause-place : goal.returns-in-None-clause-place
returns-in-None-clause-place c =
    let part = slice_range c.args.text.now c.args.from c.args.to in
    let found = position_from_yields_List (λ b. not (is_blank b)) _ _ _ c.in-None.ensures.ran (YieldsList-from_slice part cc) (λ x b q k. search (rules, tests)) in
    omega (arith, passed-none (λ b. not (not (is_blank b))) part found, prefix_len-not_not is_blank part, length-slice_range c.args.text.now c.args.from c.args.to c.requires.within)

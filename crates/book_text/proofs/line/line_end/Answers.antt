use Rattle.std.proofs.Common.{◌==◌, ◌+◌, ◌-◌, length, not, take, drop, ap, ◌∙◌, arith, rules, tests}
use Rattle.std.specs.List.{position_or_len}
use Rattle.std.proofs.lemmas.List.{take_rest, length-drop}
use Rattle.std.proofs.lemmas.Iterator.{YieldsList-from_slice}
use Rattle.std.proofs.lemmas.Iterator.Search.{position_from_yields_List}
use Rattle.book_text.proofs.Prefixes.{passed-some, passed-none}
use Rattle.book_text.proofs.line.line_end.Goals as goal

pub returns-in-Some-clause-place : goal.returns-in-Some-clause-place
returns-in-Some-clause-place c =
    let text = c.args.text.now in let at = c.args.at in let rest = take (length text - at) (drop at text) in
    let found = position_from_yields_List (λ b. b == 10) _ _ _ c.in-Some.ensures.ran (YieldsList-from_slice rest cc) (λ x b q k. search (rules, tests)) in
    ap (λ n. at + n) (passed-some (λ b. not (b == 10)) rest c.in-Some.passed found ∙ ap (position_or_len (λ b. b == 10)) (take_rest text at))

pub returns-in-None-clause-place : goal.returns-in-None-clause-place
returns-in-None-clause-place c =
    let text = c.args.text.now in let at = c.args.at in let rest = take (length text - at) (drop at text) in
    let found = position_from_yields_List (λ b. b == 10) _ _ _ c.in-None.ensures.ran (YieldsList-from_slice rest cc) (λ x b q k. search (rules, tests)) in
    omega (arith, passed-none (λ b. not (b == 10)) rest found, ap length (take_rest text at), ap (position_or_len (λ b. b == 10)) (take_rest text at), length-drop at text)

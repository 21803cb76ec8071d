use Rattle.std.proofs.Common.{◌≡◌, ◌+◌, ◌-◌, take, drop, get_or, ap, ◌∙◌, eq-eqb, arith}
use Rattle.std.specs.List.{slice_range, suffix_len}
use Rattle.std.proofs.lemmas.Bool.{ne_eqb}
use Rattle.std.proofs.lemmas.List.{length-drop, get_or-drop}
use Rattle.std.proofs.lemmas.List.Sums.{suffix_len-take_yes, suffix_len-take_no}
use Rattle.book_text.specs.Lines.{is_colon}
use Rattle.book_text.proofs.line.before_colons.Goals as goal

pub loop-end-preserved : goal.loop-end-preserved
loop-end-preserved c = let text = c.args.text.now in let from = c.args.from in let end = c.loop-end.end in
    let last : get_or (drop from text) (end - from - 1) 0 ≡ 58 =
    get_or-drop from text (end - from - 1) 0 ∙ ap (λ i. get_or text i 0) (omega arith) ∙ c.if-text-end-eq-COLON.true in
    let one_less : suffix_len is_colon (slice_range text from end) ≡ 1 + suffix_len is_colon (slice_range text from (end - 1)) =
    suffix_len-take_yes is_colon (drop from text) (end - from) 0 (omega arith) (omega (arith, length-drop from text)) (eq-eqb _ 58 last)
    ∙ ap (λ n. 1 + suffix_len is_colon (take n (drop from text))) (omega arith) in
    record { ordered = omega arith; within = omega arith; counted = omega (arith, one_less, c.loop-end.invariant.counted) }

pub returns-else-text-end-eq-COLON : goal.returns-else-text-end-eq-COLON
returns-else-text-end-eq-COLON c = let text = c.args.text.now in let from = c.args.from in let end = c.loop-end.end in
    let last : get_or (drop from text) (end - from - 1) 0 ≡ get_or text (end - 1) 0 =
    get_or-drop from text (end - from - 1) 0 ∙ ap (λ i. get_or text i 0) (omega arith) in
    let none : suffix_len is_colon (slice_range text from end) ≡ 0 =
    suffix_len-take_no is_colon (drop from text) (end - from) 0 (omega arith) (omega (arith, length-drop from text)) (ne_eqb _ 58 (λ e. c.if-text-end-eq-COLON.false cc)) in
    omega (arith, none, c.loop-end.invariant.counted)

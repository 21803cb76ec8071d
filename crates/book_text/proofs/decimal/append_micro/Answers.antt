use Rattle.std.proofs.Common.{◌≡◌, ◌∷◌, [], length, take, vec_len, ap, ◌∙◌, arith}
use Rattle.std.proofs.lemmas.List.{take_at, take_all}
use Rattle.book_text.proofs.Kept.{kept-behind}
use Rattle.book_text.proofs.decimal.append_micro.Goals as goal
use Rattle.book_text.proofs.decimal.append_micro.Goals.{then-value-lt0+in_ok-push, else-value-lt0}

pub returns-clause-kept : goal.returns-clause-kept
returns-clause-kept c =
    let old = c.args.out.now in let n = vec_len old in let signed = c.if-value-lt0.out in let whole = c.extend_from_slice.new.self in
    let old_length : n ≡ length old.items = omega (arith, old.ok.0) in
    let whole_length : vec_len whole ≡ length whole.items = omega (arith, whole.ok.0) in
    let front : take n signed.items ≡ old.items = elim c.if-value-lt0.branch [
      | then-value-lt0+in_ok-push w ↦ ap (λ v. take n v.items) w.out-is ∙ ap (take n) w.in_ok-push.ensures.items ∙ take_at old.items (45 ∷ []) n (omega arith)
      | else-value-lt0 w ↦ ap (λ v. take n v.items) w.out-is ∙ take_all n old.items (omega arith)
    ] in
    kept-behind old.items signed.items c.as_bytes.result.now c.append_fraction.new.out.items n (vec_len whole) old_length front
    (whole_length ∙ ap length c.in_ok-extend_from_slice.ensures.items) (c.append_fraction.ensures.kept ∙ c.in_ok-extend_from_slice.ensures.items)

use Rattle.std.proofs.Common.{◌≡◌, ◌≢◌, ◌<◌, length, set, sym, ◌∙◌, subst, inl, inr, arith}
use Rattle.std.specs.List.Sorted.{IsPermutation}
use Rattle.std.proofs.lemmas.Bool.{cases_lt}
use Rattle.std.proofs.lemmas.List.{length-set}
use Rattle.row_legal.specs.Forms.Rows.{IsSortOf, row_at}
use Rattle.row_legal.proofs.Handouts.{row_here, row_other, row_read}
use Rattle.row_legal.proofs.handing.sort_each.Goals as goal

pub loop-s-preserved : goal.loop-s-preserved
loop-s-preserved c =
    let old = c.args.rows.now.items in
    let rows = c.loop-s.rows.items in
    let s = c.loop-s.s in
    let inv = c.loop-s.invariant in
    let row = c.sort_unstable.new.self in
    let inside : s < length rows = omega (arith, c.loop-s-test.true, inv.all) in
    let was = row_read rows s c.index_mut.result.now inside c.index_mut.ensures.value ∙ inv.left s (omega arith) in
    record {
      all = length-set rows s row ∙ inv.all;
      done = λ t lt. elim (cases_lt t s) [
        | inl before ↦
            let differ : t ≢ s = omega arith in
            subst (λ xs. IsSortOf (row_at old t) xs) (sym (row_other rows s t row differ)) (inv.done t before)
        | inr from ↦
            let here : s ≡ t = omega arith in
            subst (λ k. IsSortOf (row_at old k) (row_at (set rows s row) k)) here (subst (λ xs. IsSortOf (row_at old s) xs) (sym (row_here rows s row inside)) (record {
              all = subst (λ xs. IsPermutation xs row.items) was c.sort_unstable.ensures.permutation;
              sorted = c.sort_unstable.ensures.sorted;
            }))
      ];
      left = λ t from. let differ : t ≢ s = omega arith in row_other rows s t row differ ∙ inv.left t (omega arith);
    }

use Rattle.std.proofs.Common.{◌≡◌, ℕ, ◌-◌, ◌*◌, ◌/◌, ◌^◌, List, [], ◌∷◌, ◌++◌, min, length, length-append, ap, ◌∙◌, arith}
use Rattle.std.proofs.lemmas.List.{take-append-le}
use Rattle.relax_table.specs.Forms.Chase.{marks_at}
use Rattle.relax_table.proofs.Marking.{marks_shifted, marks_more}
use Rattle.relax_table.proofs.marks.marked.Goals as goal

pub loop-word-preserved : goal.loop-word-preserved
loop-word-preserved c =
    let n : ℕ = length c.args.start.now in
    let words : List ℕ = c.loop-word.words.items in
    let x : ℕ = (2 ^ 64 - 1) / 2 ^ (64 - c.min-points.result) in
    let put : c.push.new.self.items ≡ words ++ x ∷ [] = c.in_ok-push.ensures.items in
    let points : c.min-points.result ≡ min (n - 64 * c.loop-word.word) 64 = omega (arith, c.min-points.ensures) in
    let is : x ≡ marks_at n c.loop-word.word = marks_shifted c.min-points.result (omega arith) ∙ ap (λ (k : ℕ). 2 ^ k - 1) points in
    record {
      front = rw (put, take-append-le n words (x ∷ []) (omega (arith, c.loop-word.invariant.all))) c.loop-word.invariant.front;
      all = rw put (omega (arith, length-append words (x ∷ []), c.loop-word.invariant.all));
      marks = marks_more n c.loop-word.word x words c.push.new.self.items c.loop-word.invariant.all put is c.loop-word.invariant.marks;
    }

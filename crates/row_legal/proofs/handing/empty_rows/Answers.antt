use Rattle.std.proofs.Common.{◌≡◌, ◌+◌, ◌∷◌, [], length, map, ap, ◌∙◌, arith, below_more}
use Rattle.std.proofs.lemmas.List.{map_push, length_push, length-map, get_or_push, get_or_append_left}
use Rattle.row_legal.proofs.Handouts.{items}
use Rattle.row_legal.proofs.handing.empty_rows.Goals as goal

pub loop-s-preserved : goal.loop-s-preserved
loop-s-preserved c =
    let old = c.loop-s.rows.items in
    let row = c.new.result in
    let inv = c.loop-s.invariant in
    let all : length (map items old) ≡ c.loop-s._s = length-map old items ∙ inv.all in
    rw c.in_ok-push.ensures.items (record {
      all = length_push old row ∙ ap (λ n. n + 1) inv.all;
      each = rw (map_push items old row) (below_more _ _
          (λ s lt. get_or_append_left (map items old) (row.items ∷ []) [] s (omega (arith, lt, all)) ∙ inv.each s lt)
          (get_or_push (map items old) row.items [] c.loop-s._s all ∙ c.new.ensures.items));
    })

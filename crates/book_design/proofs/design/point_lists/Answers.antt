use Rattle.std.proofs.Common.{rules, ◌≡◌, ◌++◌, ◌∷◌, [], ℕ, ◌+◌, ◌<◌, ◌∙◌, sym, ap, arith, length, get_or, subst, List}
use Rattle.std.specs.Prelude.{Some}
use Rattle.book_design.specs.Values.{node_values}
use Rattle.book_design.specs.Points.{node_value_at}
use Rattle.book_design.specs.Forms.Assembly.{ArePoints}
use Rattle.book_design.proofs.AssemblyPoints.{points_fixed, points_movable, no_record, value_of_node, node_count}
use Rattle.book_design.proofs.design.point_lists.Goals as goal
use Rattle.book_design.proofs.design.point_lists.Goals.{then-node+in_ok-push, else-node+in_ok-push-2+in_ok-push-3}

pub loop-i-preserved : goal.loop-i-preserved
loop-i-preserved c =
    let nodes = c.args.nodes.now in
    let e : length (node_values nodes) ≡ length nodes = node_count nodes in
    let i = c.loop-i.i in
    let movable = c.loop-i.movable.items in
    let numbers = c.loop-i.numbers.items in
    let there : i < length (node_values nodes) = omega (arith, c.loop-i-test.true) in
    let same : (node_value_at (node_values nodes) i).fixed ≡ (get_or nodes i no_record).fixed = ap (λ v. v.fixed) (value_of_node nodes i no_record c.loop-i-test.true) in
    elim c.if-node.branch [
      | then-node+in_ok-push w ↦
          let P : List ℕ → Type 0 = λ m. ArePoints (node_values nodes) (i + 1) m c.if-node.numbers.items in
          let pushed = ap (λ v. v.items) w.numbers-is ∙ w.in_ok-push.ensures.items in
          subst P (sym (ap (λ v. v.items) w.movable-is)) (points_fixed (node_values nodes) i movable numbers c.if-node.numbers.items there (same ∙ w.if-node.true) pushed c.loop-i.invariant)
      | else-node+in_ok-push-2+in_ok-push-3 w ↦
          let long : w.len.result ≡ length movable = search rules in
          let pushed = ap (λ v. v.items) w.numbers-is ∙ w.in_ok-push-2.ensures.items ∙ ap (λ n. numbers ++ Some n ∷ []) long in
          let more = ap (λ v. v.items) w.movable-is ∙ w.in_ok-push-3.ensures.items in
          points_movable (node_values nodes) i movable c.if-node.movable.items numbers c.if-node.numbers.items there (same ∙ w.if-node.false) pushed more c.loop-i.invariant
    ]

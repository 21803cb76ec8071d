use Rattle.std.proofs.Common.{◌≡◌, ◌+◌, ◌<◌, ◌∙◌, ℕ, List, false, true, length, get_or, not, ap, arith}
use Rattle.std.proofs.lemmas.List.{get_or-map, length-map}
use Rattle.std.proofs.lemmas.List.Sums.{count_by_more_no, count_by_more_yes}
use Rattle.book_design.specs.declared.parts.Node.{Node}
use Rattle.book_design.specs.Values.{node_value, node_values}
use Rattle.book_design.specs.Points.{is_movable, node_value_at, movable_before}
use Rattle.proud_top.proofs.inputs.subject_of_cell.Goals as goal
use Rattle.proud_top.proofs.inputs.subject_of_cell.Goals.{then-not-node+else-left-eq0, else-not-node}

passed_movable : (nodes : List Node) (i left rest cell : ℕ) (d : Node) → i < length nodes → (get_or nodes i d).fixed ≡ false → rest + 1 ≡ left → movable_before (node_values nodes) i + left ≡ cell
    → movable_before (node_values nodes) (i + 1) + rest ≡ cell
passed_movable nodes i left rest cell d there free less is =
    let here : node_value_at (node_values nodes) i ≡ node_value (get_or nodes i d) = get_or-map node_value nodes i d _ there in
    let one = count_by_more_yes is_movable (node_values nodes) i _ (omega (arith, there, length-map nodes node_value)) (ap is_movable here ∙ ap not free) in
    omega (arith, one, less, is)

passed_fixed : (nodes : List Node) (i left rest cell : ℕ) (d : Node) → i < length nodes → (get_or nodes i d).fixed ≡ true → rest ≡ left → movable_before (node_values nodes) i + left ≡ cell
    → movable_before (node_values nodes) (i + 1) + rest ≡ cell
passed_fixed nodes i left rest cell d there fixed same is =
    let here : node_value_at (node_values nodes) i ≡ node_value (get_or nodes i d) = get_or-map node_value nodes i d _ there in
    let none = count_by_more_no is_movable (node_values nodes) i _ (omega (arith, there, length-map nodes node_value)) (ap is_movable here ∙ ap not fixed) in
    omega (arith, none, same, is)

pub loop-node-preserved : goal.loop-node-preserved
loop-node-preserved c = elim c.if-not-node.branch [
  | then-not-node+else-left-eq0 w ↦ passed_movable c.args.nodes.now c.loop-node.node-index c.loop-node.left c.if-not-node.left c.args.cell _ c.loop-node-test.true w.if-not-node.true (omega (arith, w.left-is, w.if-left-eq0.false)) c.loop-node.invariant
  | else-not-node w ↦ passed_fixed c.args.nodes.now c.loop-node.node-index c.loop-node.left c.if-not-node.left c.args.cell _ c.loop-node-test.true w.if-not-node.false w.left-is c.loop-node.invariant
]

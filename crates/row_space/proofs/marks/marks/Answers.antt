use Rattle.std.proofs.Common.{◌≡◌, ◌<◌, ℕ, List, [], length, get_or, pos, false, sym, ap, ◌∙◌, subst, arith}
use Rattle.std.proofs.lemmas.List.{get_or-map, length-map}
use Rattle.std.proofs.lemmas.List.Elements.{All-from_recursion}
use Rattle.book_files.specs.declared.orient.Orient.TheVariants.{N}
use Rattle.book_design.specs.declared.parts.Node.{Node}
use Rattle.book_design.specs.Values.{NodeValue, node_value, node_values}
use Rattle.book_design.specs.Points.{node_value_at}
use Rattle.book_design.specs.WellFormed.{IsGoodNode}
use Rattle.row_space.specs.Forms.Marks.{AreMarks}
use Rattle.row_space.proofs.Marking.{marks_sorted, marks_more, marks_pass, marks_moved}
use Rattle.row_space.proofs.marks.marks.Goals as goal
use Rattle.row_space.proofs.marks.marks.Goals.{then-is_solid+in_ok-mark_node, else-is_solid}

-- what the code reads past the end
abbrev no_node : Node
no_node = record { name = record { 0 = record { ref_ptr = (0, 0); now = [] } }; width = pos 0; height = pos 0; x = pos 0; y = pos 0; orient = N; fixed = false; overlap = false }

node_is : (nodes : List Node) (values : List NodeValue) (i : ℕ) (d : Node) → node_values nodes ≡ values → i < length nodes → node_value (get_or nodes i d) ≡ node_value_at values i
node_is nodes values i d is lt = sym (get_or-map node_value nodes i d (node_value_at [] 0) lt) ∙ ap (λ (vs : List NodeValue). node_value_at vs i) is

same_length : (nodes : List Node) (values : List NodeValue) → node_values nodes ≡ values → length nodes ≡ length values
same_length nodes values is = sym (length-map nodes node_value) ∙ ap length is

pub mark_node-requires-clause-node : goal.mark_node-requires-clause-node
mark_node-requires-clause-node c =
    let design = c.args.design.now in
    let i = c.loop-node.node-index in
    let nodes = c.nodes-node-items.result.now in
    let all = c.nodes-node-items.ensures.nodes in
    let there : i < length design.nodes = omega (arith, c.loop-node-test.true, same_length nodes design.nodes all) in
    subst (IsGoodNode design.row_height) (sym (node_is nodes design.nodes i no_node all c.loop-node-test.true))
    (All-from_recursion (IsGoodNode design.row_height) design.nodes c.nodes-node-items.ensures.valid.nodes i (node_value_at [] 0) there)

pub loop-node-preserved : goal.loop-node-preserved
loop-node-preserved c =
    let design = c.args.design.now in
    let i = c.loop-node.node-index in
    let nodes = c.nodes-node-items.result.now in
    let all = c.nodes-node-items.ensures.nodes in
    let node : NodeValue = node_value (get_or nodes i no_node) in
    let is : node ≡ node_value_at design.nodes i = node_is nodes design.nodes i no_node all c.loop-node-test.true in
    let there : i < length design.nodes = omega (arith, c.loop-node-test.true, same_length nodes design.nodes all) in
    elim c.if-is_solid.branch [
      | then-is_solid+in_ok-mark_node w ↦ rw w.marks-is (marks_more design node c.loop-node.marks.items w.mark_node.new.marks.items i c.loop-node.invariant there is w.in_ok-mark_node.ensures)
      | else-is_solid w ↦ rw w.marks-is (marks_pass design node c.loop-node.marks.items i c.loop-node.invariant is w.if-is_solid.ensures)
    ]

pub returns-clause-marks : goal.returns-clause-marks
returns-clause-marks c =
    let design = c.args.design.now in
    let all : c.loop-node.node-index ≡ length design.nodes = omega (arith, c.loop-node-test.false, c.loop-node.auto.node-index-end, same_length c.nodes-node-items.result.now design.nodes c.nodes-node-items.ensures.nodes) in
    marks_moved design (length design.nodes) c.loop-node.marks.items c.sort_unstable.new.self.items (subst (λ n. AreMarks design n c.loop-node.marks.items) all c.loop-node.invariant) c.sort_unstable.ensures.permutation

pub returns-clause-sorted : goal.returns-clause-sorted
returns-clause-sorted c = marks_sorted _ c.sort_unstable.ensures.sorted

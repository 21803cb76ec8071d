use Rattle.std.proofs.Common.{◌≡◌, ◌∙◌, ℕ, List, ap, arith}
use Rattle.std.specs.Prelude.{Vec, Result, Ok, Err, IfOk}
use Rattle.std.specs.declared.alloc.Global.{Global}
use Rattle.book_text.specs.declared.memory.Memory.{Memory as NoMemory}
use Rattle.book_design.specs.Values.{NodeValue}
use Rattle.proud_top.specs.Lines.{node_subject}
use Rattle.proud_top.proofs.Points.{cell_named, star_named, star_there}
use Rattle.proud_top.proofs.Wishing.{node_here, node_inside, no_record}
use Rattle.proud_top.proofs.inputs.subject_of_point.Goals as goal

ok_as : (result : Result (Vec ℕ Global) NoMemory) (a b : List ℕ) → IfOk result (λ subject. subject.items ≡ a) → a ≡ b → IfOk result (λ subject. subject.items ≡ b)
ok_as (Ok subject) a b is same = is ∙ same
ok_as (Err error) a b is same = tt

pub star_net-requires : goal.star_net-requires
star_net-requires c = star_there c.args.design.now c.args.point c.cell_count-cells.result c.cell_count-cells.ensures.count (omega arith) c.requires

pub returns-then-point-cells : goal.returns-then-point-cells
returns-then-point-cells c =
    let design = c.args.design.now in
    let nodes = c.nodes.result.now in
    let i = c.node_of-node.result in
    let at = c.node_of-node.ensures.node in
    let here = node_here design nodes i no_record c.nodes.ensures.nodes (node_inside design nodes i c.nodes.ensures.nodes at.there) in
    ok_as c.node_subject.result _ _ c.node_subject.ensures
    (ap (λ (node : NodeValue). node_subject node.name) here ∙ cell_named design c.args.point c.cell_count-cells.result i c.cell_count-cells.ensures.count c.if-point-cells.true at)

pub returns-in_ok-star_net : goal.returns-in_ok-star_net
returns-in_ok-star_net c =
    ok_as c.net_subject.result _ _ c.net_subject.ensures
    (star_named c.args.design.now c.args.point c.cell_count-cells.result _ c.cell_count-cells.ensures.count (omega arith) c.in_ok-star_net.ensures)

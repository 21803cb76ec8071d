use Rattle.step_bench.proofs.Lines.{node_read, names_more, marks_more}
use Rattle.step_bench.proofs.placement.lines.Goals as goal

pub line_of-requires : goal.line_of-requires
line_of-requires c =
    let good = node_read c.args.design.now c.nodes-nodes.result.now c.loop-i.i _ c.nodes-nodes.ensures.valid c.nodes-nodes.ensures.nodes c.loop-i-test.true in
    record { name = good.name; marks = good.marks }

pub loop-i-preserved : goal.loop-i-preserved
loop-i-preserved c = (
  names_more c.loop-i.lines.items c.push.new.self.items c.line_of.result c.loop-i.invariant.0 c.in_ok-push.ensures.items c.line_of.ensures.name,
  marks_more c.loop-i.lines.items c.push.new.self.items c.line_of.result c.loop-i.invariant.1 c.in_ok-push.ensures.items c.line_of.ensures.marks,
)

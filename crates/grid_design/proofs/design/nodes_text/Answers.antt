use Rattle.std.proofs.Common.{arith, rules}
use Rattle.grid_design.proofs.Written.{nodes_written}
use Rattle.grid_design.proofs.design.nodes_text.Goals as goal

pub returns : goal.returns
returns c =
    nodes_written c.args.grid c.args.nodes.now c.loop-node.node-index c.from-cells.result c.from-terminals.result c.put_header.new.text.items c.put_stated.new.text.items c.put_stated-2.new.text.items c.loop-node.text.items
    c.requires.nodes (omega arith) c.from-cells.ensures c.from-terminals.ensures (search rules) c.in_ok-put_stated.ensures c.in_ok-put_stated-2.ensures c.loop-node.invariant

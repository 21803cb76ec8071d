use Rattle.std.proofs.Common.{arith}
use Rattle.grid_design.proofs.Written.{net_lines_more}
use Rattle.grid_design.proofs.design.nets_text.Goals as goal

pub loop-number-preserved : goal.loop-number-preserved
loop-number-preserved c =
    net_lines_more c.args.nets.now c.loop-number.number _ c.put_stated-2.new.text.items c.loop-number.text.items c.put_net.new.text.items (omega arith) c.loop-number.invariant c.in_ok-put_net.ensures

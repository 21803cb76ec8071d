use Rattle.std.proofs.Common.{◌≡◌, suc, add-one}
use Rattle.grid_design.specs.Weights.{state}
use Rattle.grid_design.proofs.Written.{state_more, weights_more}
use Rattle.grid_design.proofs.design.wts_text.Goals as goal

pub loop-net-preserved : goal.loop-net-preserved
loop-net-preserved c =
    let is : c.next_state-state.result ≡ state c.args.number (suc c.loop-net.net) = state_more c.args.number c.loop-net.net c.loop-net.state c.next_state-state.result c.loop-net.invariant.0 c.next_state-state.ensures in
    (rw (add-one c.loop-net.net) is, weights_more c.args.number c.loop-net.net c.next_state-state.result c.weight_by.result c.put_header.new.text.items c.loop-net.text.items c.put_line.new.text.items is c.weight_by.ensures c.loop-net.invariant.1 c.in_ok-put_line.ensures)

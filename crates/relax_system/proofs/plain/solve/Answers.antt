use Rattle.relax_system.proofs.Climbing.{IsOnWay_start}
use Rattle.relax_system.proofs.plain.solve.Goals as goal

pub sweeps-init : goal.sweeps-init
sweeps-init c = rw c.in_ok-items.ensures (IsOnWay_start c.args.side c.args.system.now c.in_ok-flat.ensures.valid)

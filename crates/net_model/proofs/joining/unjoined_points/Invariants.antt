use Rattle.net_model.specs.Values.{point_values}
use Rattle.net_model.proofs.JoiningFresh.{AreFresh}
use Rattle.net_model.proofs.joining.unjoined_points.Given as goal

abbrev pub invariant-loop-i : goal.invariant-loop-i
invariant-loop-i l = AreFresh l.design l.i (point_values l.points.items)

use Rattle.std.proofs.Common.{◌≡◌, take}
use Rattle.net_model.specs.Values.{point_entry}
use Rattle.net_model.specs.Forms.Joining.{paired_point}
use Rattle.net_model.proofs.joining.pair_point.Given as goal

abbrev pub invariant-loop-pin : goal.invariant-loop-pin
invariant-loop-pin l = point_entry l.point ≡ paired_point l.design l.weight (take l.pin-index l.members) l.node (point_entry l.fn.point)

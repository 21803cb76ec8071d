use Rattle.std.proofs.Common.{◌≡◌, length, take}
use Rattle.net_model.specs.Values.{point_entry}
use Rattle.net_model.specs.Forms.Joining.{paired_point}
use Rattle.net_model.proofs.JoiningNets.{no_point}
use Rattle.net_model.proofs.starring.star_point.Given as goal

-- past the last node there is none that a pin could be at, so all members are pairs of it
abbrev pub invariant-loop-pin : goal.invariant-loop-pin
invariant-loop-pin l = point_entry l.point ≡ paired_point l.design l.weight (take l.pin-index l.members) (length l.design.nodes) no_point

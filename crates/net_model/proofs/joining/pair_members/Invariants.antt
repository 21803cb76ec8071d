use Rattle.std.proofs.Common.{take}
use Rattle.net_model.specs.Values.{point_values}
use Rattle.net_model.specs.Forms.Joining.{paired_point}
use Rattle.net_model.proofs.JoiningNets.{AreGivenAt}
use Rattle.net_model.proofs.joining.pair_members.Given as goal

abbrev pub invariant-loop-pin : goal.invariant-loop-pin
invariant-loop-pin l = AreGivenAt l.design (paired_point l.design l.weight l.members) (take l.pin-index l.members) (point_values l.fn.points) (point_values l.points)

use Rattle.std.proofs.Common.{take}
use Rattle.net_model.specs.Values.{point_values}
use Rattle.net_model.specs.Forms.Stars.{spoked_point}
use Rattle.net_model.proofs.JoiningNets.{AreGivenAt}
use Rattle.net_model.proofs.starring.spoke_members.Given as goal

abbrev pub invariant-loop-pin : goal.invariant-loop-pin
invariant-loop-pin l = AreGivenAt l.design (λ i. spoked_point l.weight l.number) (take l.pin-index l.members) (point_values l.fn.points) (point_values l.points)

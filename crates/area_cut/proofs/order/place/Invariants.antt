use Rattle.std.proofs.Common.{◌≡◌, take}
use Rattle.area_cut.specs.Forms.Placed.{placed_points}
use Rattle.area_cut.proofs.order.place.Given as goal

abbrev pub invariant-loop-point : goal.invariant-loop-point
invariant-loop-point l = l.order.items ≡ placed_points l.mids (take l.point-index l.points)

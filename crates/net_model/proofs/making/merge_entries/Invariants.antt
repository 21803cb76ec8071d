use Rattle.std.proofs.Common.{◌≡◌, ◌++◌, length, map, take, drop}
use Rattle.net_model.specs.Forms.Steps.{summed}
use Rattle.net_model.specs.Values.{point_values}
use Rattle.net_model.proofs.making.merge_entries.Given as goal

abbrev pub invariant-loop-point : goal.invariant-loop-point
invariant-loop-point l =
    let before = point_values l.initial.points in
    point_values l.points ≡ map (summed (length l.initial.points)) (take l.point-index before) ++ drop l.point-index before

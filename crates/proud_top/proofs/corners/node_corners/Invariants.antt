use Rattle.row_legal.specs.Spots.{spots_of}
use Rattle.proud_top.proofs.Placing.{AreCornersTo}
use Rattle.proud_top.proofs.corners.node_corners.Given as goal

abbrev pub invariant-loop-i : goal.invariant-loop-i
invariant-loop-i l = AreCornersTo l.design.nodes (spots_of l.segments l.places) l.i l.corners.items

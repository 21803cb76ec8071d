use Rattle.pad_reach.specs.Forms.InNeighbours.{IsLaidOut}
use Rattle.pad_reach.proofs.in_neighbours.lay_out_point.Given as goal

abbrev pub invariant-loop-k : goal.invariant-loop-k
invariant-loop-k g l = IsLaidOut (g.W.Web.joints l.web) l.i l.k l.starts l.points

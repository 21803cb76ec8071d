use Rattle.pad_reach.specs.Forms.InNeighbours.{IsLaidOut}
use Rattle.pad_reach.proofs.in_neighbours.lay_out.Given as goal

abbrev pub invariant-loop-i : goal.invariant-loop-i
invariant-loop-i g l = IsLaidOut (g.W.Web.joints l.web) l.i 0 l.starts l.points

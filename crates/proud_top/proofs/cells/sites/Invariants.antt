use Rattle.proud_top.proofs.Wishing.{AreSitesTo}
use Rattle.proud_top.proofs.cells.sites.Given as goal

abbrev pub invariant-loop-point : goal.invariant-loop-point
invariant-loop-point l = AreSitesTo l.design l.point l.sites.items

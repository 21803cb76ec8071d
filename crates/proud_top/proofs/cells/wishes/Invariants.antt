use Rattle.proud_top.proofs.Wishing.{AreWishesTo}
use Rattle.proud_top.proofs.cells.wishes.Given as goal

abbrev pub invariant-loop-point : goal.invariant-loop-point
invariant-loop-point l = AreWishesTo l.design l.level l.point l.wishes.items

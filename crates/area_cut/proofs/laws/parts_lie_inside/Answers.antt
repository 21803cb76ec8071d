use Rattle.area_cut.proofs.laws.parts_lie_inside.Goals as goal
use Rattle.area_cut.proofs.Insides.{parts_inside}

pub returns : goal.returns
returns c = λ areas xs ys region good. parts_inside areas xs ys region good

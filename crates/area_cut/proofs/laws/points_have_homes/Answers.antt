use Rattle.area_cut.proofs.laws.points_have_homes.Goals as goal
use Rattle.area_cut.proofs.Homes.{homes}

pub returns : goal.returns
returns c = homes

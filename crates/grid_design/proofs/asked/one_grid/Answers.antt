use Rattle.grid_design.proofs.Commas.{one_grid}
use Rattle.grid_design.proofs.asked.one_grid.Goals as goal

pub returns : goal.returns
returns c = one_grid

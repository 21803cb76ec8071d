use Rattle.net_model.proofs.Unanchored.{unanchored_movable}
use Rattle.net_model.proofs.laws.unanchored_is_movable.Goals as goal

pub returns : goal.returns
returns c = unanchored_movable

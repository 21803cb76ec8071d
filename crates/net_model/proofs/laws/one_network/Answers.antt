use Rattle.net_model.proofs.OneNetwork.{has_one_network}
use Rattle.net_model.proofs.laws.one_network.Goals as goal

pub returns : goal.returns
returns c = has_one_network

use Rattle.net_model.proofs.NetPairs.{net_in_pairs}
use Rattle.net_model.proofs.laws.terms_are_pairs.Goals as goal

pub returns : goal.returns
returns c = net_in_pairs

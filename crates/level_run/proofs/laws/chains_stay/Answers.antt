use Rattle.std.proofs.Common.{length}
use Rattle.level_run.proofs.laws.chains_stay.Goals as goal
use Rattle.level_run.proofs.Chains.{chains_stay}
use Rattle.level_run.proofs.Valid.{system_is_valid}

pub returns-clause-chains : goal.returns-clause-chains
returns-clause-chains c = chains_stay

pub returns-clause-valid : goal.returns-clause-valid
returns-clause-valid c = λ axis network regions mids net chains shares. system_is_valid axis network regions mids net (c.points_have_homes.ensures (length network.points) regions shares.partition) shares.good shares.within chains

use Rattle.std.proofs.Common.{[], ◌∷◌, length}
use Rattle.level_run.specs.Levels.{core_region}
use Rattle.level_run.proofs.NoMids.{no_mids_used}
use Rattle.level_run.proofs.Shared.{core_shares}
use Rattle.level_run.proofs.laws.first_uses_no_mids.Goals as goal

pub returns : goal.returns
returns c = λ axis network mids other net.
    no_mids_used axis network mids other net (c.points_have_homes.ensures (length network.points) (core_region network ∷ []) (core_shares network net).partition)

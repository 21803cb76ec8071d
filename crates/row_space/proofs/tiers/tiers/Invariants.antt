use Rattle.row_space.proofs.Tiering.{AreTiersUpTo}
use Rattle.row_space.proofs.tiers.tiers.Given as goal

-- the tiers of the first subrows
abbrev pub invariant-loop-number : goal.invariant-loop-number
invariant-loop-number l = AreTiersUpTo l.design l.number l.tiers.items

use Rattle.std.proofs.Common.{arith, rules}
use Rattle.std.proofs.lemmas.List.Sorted.{IsPartitionPoint-from_clause}
use Rattle.row_space.proofs.Tiering.{blank, is_below, parted}
use Rattle.row_space.proofs.Comparing.{le_of, not_le}
use Rattle.row_space.proofs.marks.first_above.Goals as goal

pub returns-clause-below : goal.returns-clause-below
returns-clause-below c = λ k lt.
    let point = IsPartitionPoint-from_clause (is_below c.args.y) c.args.tiers.now c.partition_point.result c.partition_point.ensures.partitioned (parted c.args.tiers.now c.args.y c.requires) (λ a r q k. search rules) in
    le_of _ _ (point.0 k blank (omega arith) lt)

pub returns-clause-above : goal.returns-clause-above
returns-clause-above c = λ k from lt.
    let point = IsPartitionPoint-from_clause (is_below c.args.y) c.args.tiers.now c.partition_point.result c.partition_point.ensures.partitioned (parted c.args.tiers.now c.args.y c.requires) (λ a r q k. search rules) in
    not_le _ _ (point.1 k blank from lt)

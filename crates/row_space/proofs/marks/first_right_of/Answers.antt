use Rattle.std.proofs.Common.{◌≡◌, true, false, Bool, arith, rules}
use Rattle.std.proofs.lemmas.List.Sorted.{IsPartitionPoint-from_clause}
use Rattle.row_space.specs.Forms.Tiers.{tier_at}
use Rattle.row_space.proofs.Tiering.{blank, is_passed, passed_parted, passed_of, of_passed}
use Rattle.row_space.proofs.marks.first_right_of.Goals as goal

clash : (b : Bool) → b ≡ true → b ≡ false → ⊥
clash b t f = cc

pub returns-clause-before : goal.returns-clause-before
returns-clause-before c = λ k lt.
    let point = IsPartitionPoint-from_clause (is_passed c.args.y c.args.x) c.args.tiers.now c.partition_point.result c.partition_point.ensures.partitioned (passed_parted c.args.tiers.now c.args.y c.args.x c.requires) (λ a r q k. search rules) in
    passed_of c.args.y c.args.x (tier_at c.args.tiers.now k) (point.0 k blank (omega arith) lt)

pub returns-clause-behind : goal.returns-clause-behind
returns-clause-behind c = λ k from lt passed.
    let point = IsPartitionPoint-from_clause (is_passed c.args.y c.args.x) c.args.tiers.now c.partition_point.result c.partition_point.ensures.partitioned (passed_parted c.args.tiers.now c.args.y c.args.x c.requires) (λ a r q k. search rules) in
    clash (is_passed c.args.y c.args.x (tier_at c.args.tiers.now k)) (of_passed c.args.y c.args.x (tier_at c.args.tiers.now k) passed) (point.1 k blank from lt)

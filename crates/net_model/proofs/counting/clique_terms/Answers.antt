use Rattle.std.proofs.Common.{◌≤◌, arith, length}
use Rattle.book_design.specs.Nets.{net_value}
use Rattle.net_model.proofs.CountingTerms.{members_there, few_members, few_fixed, fewer_pairs}
use Rattle.net_model.proofs.counting.clique_terms.Goals as goal

pub count_fixed-requires : goal.count_fixed-requires
count_fixed-requires c = members_there (length c.args.design.now.nodes) (net_value c.args.net.now) c.args.first.now c.requires.valid c.requires.first

pub pair_count-requires : goal.pair_count-requires
pair_count-requires c = few_members (length c.args.first.now) c.args.net.now.weight c.share.result c.share.ensures c.if-share-eq0.false

pub pair_count-requires-else-share-eq0 : goal.pair_count-requires-else-share-eq0
pair_count-requires-else-share-eq0 c =
    let few = few_members (length c.args.first.now) c.args.net.now.weight c.share.result c.share.ensures c.if-share-eq0.false in
    omega (arith, few, few_fixed c.args.design.now c.args.first.now)

pub overflow_sub-result : goal.overflow_sub-result
overflow_sub-result c =
    let few : c.count_fixed.result ≤ length c.args.first.now = omega (arith, few_fixed c.args.design.now c.args.first.now) in
    omega (arith, fewer_pairs c.count_fixed.result (length c.args.first.now) few)

use Rattle.std.proofs.Common.{◌+◌, ◌<◌, ◌≤◌, ◌∙◌, ap, take, arith, rules}
use Rattle.std.specs.List.{filter_map, range_with_len}
use Rattle.net_model.specs.Forms.Steps.{as_sum}
use Rattle.std.proofs.lemmas.List.Sorted.{IsNonDecreasingBy-from_sort_by_key, All-permutation, sum_by-IsPermutation}
use Rattle.std.proofs.lemmas.List.{with_items_is}
use Rattle.std.proofs.lemmas.List.Elements.{All-same}
use Rattle.net_model.specs.declared.parts.Near.{Near}
use Rattle.net_model.proofs.MergingSums.{sums-permutation}
use Rattle.net_model.proofs.merging.merge.Goals as goal

pub join_runs-last-requires : goal.join_runs-last-requires
join_runs-last-requires c =
    let given = c.args.near.now.items in
    let sorted = c.sort_unstable_by_key.new.self.items in
    let moved = c.sort_unstable_by_key.ensures.permutation in
    rw c.as_mut_slice.ensures.value record {
      sorted = IsNonDecreasingBy-from_sort_by_key (λ (entry : Near). entry.point) sorted c.sort_unstable_by_key.ensures.sorted (λ a r q k. search rules);
      fits = omega (arith, sum_by-IsPermutation (λ (entry : Near). entry.weight) given sorted moved, c.requires.fits);
      weighty = All-permutation (λ (entry : Near). 1 ≤ entry.weight) given sorted moved c.requires.weighty;
    }

pub returns : goal.returns
returns c = λ n below.
    let given = c.args.near.now.items in
    let sorted = c.sort_unstable_by_key.new.self in
    let moved = c.sort_unstable_by_key.ensures.permutation in
    let same = c.as_mut_slice.ensures.value in
    let whole = with_items_is sorted c.join_runs-last.new.near (c.join_runs-last.auto.near ∙ c.as_mut_slice.ensures.len) in
    let below_still = All-same (λ (entry : Near). entry.point < n) c.as_mut_slice.result.now sorted.items same (All-permutation (λ (entry : Near). entry.point < n) given sorted.items moved below) in
    c.truncate.ensures.items ∙ ap (take (c.join_runs-last.result + 1)) whole ∙ c.join_runs-last.ensures.joined n below_still
    ∙ ap (λ xs. filter_map (as_sum xs) (range_with_len 0 n)) same ∙ sums-permutation given sorted.items (range_with_len 0 n) moved

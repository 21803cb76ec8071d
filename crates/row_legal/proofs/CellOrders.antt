-- The orders in which cells are taken, and in which they stand in a row.
use Rattle.std.proofs.Common.{◌≡◌, ℕ, ◌<◌, List, arith}
use Rattle.std.specs.Prelude.{All}
use Rattle.std.specs.Ordering.{nat_cmp, int_cmp, ordering_then}
use Rattle.std.specs.List.{range_with_len}
use Rattle.std.proofs.lemmas.Cmp.{nat_cmp_total, int_cmp_total, on_total, then_total, back_total}
use Rattle.std.proofs.lemmas.List.FromFn.{length-range_with_len, get_or-range_with_len}
use Rattle.std.proofs.lemmas.List.Sorted.{All-permutation}
use Rattle.row_legal.specs.Cells.{CellsValue, count, sites_at, wish_at}
use Rattle.row_legal.specs.Greedy.{taking_order, IsTakingOrder}
use Rattle.row_legal.specs.Places.{row_order}
use Rattle.row_legal.proofs.Orders.{TellsApart, last_ties, number_ties, one_order, in_order}

pub taking_tells : (cells : CellsValue) → TellsApart (taking_order cells)
taking_tells cells = record {
  total = then_total (back_total (on_total (sites_at cells) nat_cmp_total))
      (then_total (on_total (λ (c : ℕ). (wish_at cells c).y) int_cmp_total) (then_total (on_total (λ (c : ℕ). (wish_at cells c).x) int_cmp_total) nat_cmp_total));
  ties = λ a b tie.
      let x_tie = last_ties (int_cmp (wish_at cells a).y (wish_at cells b).y) (ordering_then (int_cmp (wish_at cells a).x (wish_at cells b).x) (nat_cmp a b))
      (last_ties (nat_cmp (sites_at cells b) (sites_at cells a)) (ordering_then (int_cmp (wish_at cells a).y (wish_at cells b).y) (ordering_then (int_cmp (wish_at cells a).x (wish_at cells b).x) (nat_cmp a b))) tie) in
      number_ties a b (last_ties (int_cmp (wish_at cells a).x (wish_at cells b).x) (nat_cmp a b) x_tie);
}

pub row_tells : (cells : CellsValue) → TellsApart (row_order cells)
row_tells cells = record {
  total = then_total (on_total (λ (c : ℕ). (wish_at cells c).x) int_cmp_total) nat_cmp_total;
  ties = λ a b tie. number_ties a b (last_ties (int_cmp (wish_at cells a).x (wish_at cells b).x) (nat_cmp a b) tie);
}

-- cells are taken in one order
pub one_taking : (cells : CellsValue) (xs ys : List ℕ) → IsTakingOrder cells xs → IsTakingOrder cells ys → xs ≡ ys
one_taking cells xs ys of_x of_y = one_order (taking_order cells) (taking_tells cells) (range_with_len 0 (count cells)) xs ys of_x.all of_y.all of_x.sorted of_y.sorted

pub some_taking : (cells : CellsValue) → (xs : List ℕ) × IsTakingOrder cells xs
some_taking cells =
    let order = in_order (taking_order cells) (taking_tells cells).total (range_with_len 0 (count cells)) in
    (order.list, record { all = order.all; sorted = order.sorted })

-- what is taken are cells
pub are_cells : (cells : CellsValue) (xs : List ℕ) → IsTakingOrder cells xs → All (λ c. c < count cells) xs
are_cells cells xs order = All-permutation (λ c. c < count cells) (range_with_len 0 (count cells)) xs order.all (λ k d lt.
    let there : k < count cells = omega (arith, lt, length-range_with_len 0 (count cells)) in
    let is = get_or-range_with_len 0 (count cells) k d there in
    omega (arith, is, there))

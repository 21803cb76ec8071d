-- The areas of the two parts differ by at most twice the largest area of a point, and the first part is the shortest front.
use Rattle.std.proofs.Common.{◌≡◌, ◌⊎◌, ℕ, ◌+◌, ◌-◌, ◌*◌, ◌<◌, ◌≤◌, true, not, ltb, min, List, length, get_or, take, refl, sym, ◌∙◌, ap, inl, inr, arith}
use Rattle.std.specs.Prelude.{All, Contains, ◌↔◌, slice_index}
use Rattle.std.specs.List.Sorted.{IsStrictlyIncreasing}
use Rattle.std.proofs.lemmas.Bool.{cases_lt, lt-ltb, ltb-true}
use Rattle.std.proofs.lemmas.List.{get_or_default, take_all, length-take-le, get_or-take}
use Rattle.std.proofs.lemmas.List.Elements.{All-get_or}
use Rattle.std.proofs.lemmas.List.Filters.{sum_by-filter_both}
use Rattle.std.proofs.lemmas.List.Sums.{sum_by_more}
use Rattle.std.proofs.lemmas.List.Sorted.{sum_by-IsPermutation, length_permutation, All-permutation, Contains-permutation}
use Rattle.area_cut.specs.Cut.{area_of, in_first, first_points, second_points}
use Rattle.area_cut.specs.Order.{IsInOrder, IsShortestFront, AreBalanced}
use Rattle.area_cut.specs.Forms.Placed.{IsFirstCount}
use Rattle.area_cut.proofs.Counts.{at_place, first_area}
use Rattle.area_cut.proofs.Sorts.{front_is_there}

balance_of : (areas mids points order : List ℕ) (n most : ℕ) → IsInOrder mids points order → IsFirstCount areas order (area_of areas points) n → All (λ p. slice_index areas p ≤ most) points → AreBalanced areas mids points most
balance_of areas mids points order n most ordered count small = record {
  first = by_first (cases_lt 1 n);
  second = by_second (cases_lt (n + 1) (length order));
} where
  small_in : All (λ p. slice_index areas p ≤ most) order
  small_in = All-permutation (λ (p : ℕ). slice_index areas p ≤ most) points order ordered.same small

  both : area_of areas (first_points areas mids points) + area_of areas (second_points areas mids points) ≡ area_of areas points
  both = sum_by-filter_both (in_first areas mids points) (λ p. not (in_first areas mids points p)) (λ _. refl) (λ p. slice_index areas p) points

  first : area_of areas (first_points areas mids points) ≡ area_of areas (take n order)
  first = first_area areas mids points order n ordered count

  more : (k : ℕ) → k < length order → area_of areas (take (k + 1) order) ≡ area_of areas (take k order) + slice_index areas (get_or order k 0)
  more k inside = sum_by_more (λ p. slice_index areas p) order k 0 inside

  at_most : (k : ℕ) → k < length order → slice_index areas (get_or order k 0) ≤ most
  at_most k inside = All-get_or (λ (p : ℕ). slice_index areas p ≤ most) order k 0 inside small_in

  by_first : (1 < n) ⊎ (n ≤ 1) → area_of areas (first_points areas mids points) ≤ area_of areas (second_points areas mids points) + 2 * most
  by_first (inl some) =
      let short = count.short in
      let last : n - 1 < length order = omega arith in
      let step = more (n - 1) last in
      let is : n - 1 + 1 ≡ n = omega arith in
      let whole : area_of areas (take (n - 1 + 1) order) ≡ area_of areas (take n order) = ap (λ (k : ℕ). area_of areas (take k order)) is in
      let fewer = count.fewer (n - 1) (omega arith) (omega arith) in
      let bound = at_most (n - 1) last in
      let parts = both in
      let front = first in
      omega arith
  by_first (inr one) =
      let some = count.some in
      let short = count.short in
      let is : 0 + 1 ≡ n = omega arith in
      let step = more 0 (omega arith) in
      let whole : area_of areas (take (0 + 1) order) ≡ area_of areas (take n order) = ap (λ (k : ℕ). area_of areas (take k order)) is in
      let bound = at_most 0 (omega arith) in
      let parts = both in
      let front = first in
      omega arith

  by_second : (n + 1 < length order) ⊎ (length order ≤ n + 1) → area_of areas (second_points areas mids points) ≤ area_of areas (first_points areas mids points) + 2 * most
  by_second (inl room) = let enough = count.enough room in let parts = both in let front = first in omega arith
  by_second (inr full) =
      let short = count.short in
      let step = more n short in
      let whole : area_of areas (take (n + 1) order) ≡ area_of areas order = ap (area_of areas) (take_all (n + 1) order full) in
      let same : area_of areas order ≡ area_of areas points = sum_by-IsPermutation (λ p. slice_index areas p) points order ordered.same in
      let bound = at_most n short in
      let parts = both in
      let front = first in
      omega arith

-- ---- the first part is the shortest front, and all but the last point where that is all of them

count_of_front : (areas mids points order : List ℕ) (n : ℕ) → IsInOrder mids points order → 2 ≤ length points → IsShortestFront areas order n → IsFirstCount areas order (area_of areas points) (min n (length order - 1))
count_of_front areas mids points order n ordered many front =
    let long = length_permutation points order ordered.same in
    let same : area_of areas order ≡ area_of areas points = sum_by-IsPermutation (λ p. slice_index areas p) points order ordered.same in
    let some = front.some in
    let within = front.within in
    record {
      some = omega arith;
      short = omega arith;
      fewer = λ m one below. let less = front.shortest m one (omega arith) in omega arith;
      enough = λ room.
          let is : n ≡ min n (length order - 1) = omega arith in
          let enough = front.enough in
          let shorter : area_of areas (take n order) ≡ area_of areas (take (min n (length order - 1)) order) = ap (λ (k : ℕ). area_of areas (take k order)) is in
          omega arith;
    }

pub front_is_first : (areas mids points order : List ℕ) (n p : ℕ) → IsInOrder mids points order → 2 ≤ length points → IsShortestFront areas order n → Contains points p
    → (in_first areas mids points p ≡ true) ↔ Contains (take (min n (length order - 1)) order) p
front_is_first areas mids points order n p ordered many front among = (to, from) where
  count : IsFirstCount areas order (area_of areas points) (min n (length order - 1))
  count = count_of_front areas mids points order n ordered many front

  taken : length (take (min n (length order - 1)) order) ≡ min n (length order - 1)
  taken = length-take-le (min n (length order - 1)) order (omega arith)

  to : in_first areas mids points p ≡ true → Contains (take (min n (length order - 1)) order) p
  to e =
      let at = Contains-permutation points order p ordered.same among in
      let k = at.0 in
      let is : get_or order k 0 ≡ p = get_or_default order k 0 p at.1 ∙ at.2 in
      let test : ltb k (min n (length order - 1)) ≡ true = sym (at_place areas mids points order (min n (length order - 1)) k ordered count at.1) ∙ ap (in_first areas mids points) is ∙ e in
      let before = ltb-true k (min n (length order - 1)) test in
      (k, omega (arith, taken), get_or-take (min n (length order - 1)) order k p before ∙ at.2)

  from : Contains (take (min n (length order - 1)) order) p → in_first areas mids points p ≡ true
  from at =
      let j = at.0 in
      let j_in = at.1 in
      let before : j < min n (length order - 1) = omega (arith, taken) in
      let inside : j < length order = omega arith in
      let is : get_or order j 0 ≡ p = get_or_default order j 0 p inside ∙ sym (get_or-take (min n (length order - 1)) order j p before) ∙ at.2 in
      sym (ap (in_first areas mids points) is) ∙ at_place areas mids points order (min n (length order - 1)) j ordered count inside ∙ lt-ltb j (min n (length order - 1)) before

-- ---- the balance of any points

pub parts_are_balanced : (areas mids points : List ℕ) (most : ℕ) → IsStrictlyIncreasing points → 2 ≤ length points → All (λ p. slice_index areas p ≤ most) points → AreBalanced areas mids points most
parts_are_balanced areas mids points most ascending some small =
    let found = front_is_there areas mids points ascending (omega arith) in
    let order = found.0 in
    let n = found.1.0 in
    balance_of areas mids points order (min n (length order - 1)) most found.1.1.0 (count_of_front areas mids points order n found.1.1.0 some found.1.1.1) small

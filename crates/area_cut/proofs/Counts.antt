-- The first part of a region is a front of its points in order.
use Rattle.std.proofs.Common.{◌≡◌, ℕ, ◌+◌, ◌-◌, ◌*◌, ◌<◌, ◌≤◌, Bool, true, false, not, ◌&&◌, ◌||◌, cond, ltb, eqb, List, length, get_or, take, sym, ◌∙◌, ap, refl, arith}
use Rattle.std.specs.Prelude.{slice_index, filter, Contains}
use Rattle.std.proofs.lemmas.Bool.{lt-ltb, le-ltb}
use Rattle.std.proofs.lemmas.Bool.Decides.{nat_tests}
use Rattle.std.proofs.lemmas.List.{get_or_default, take-take}
use Rattle.std.proofs.lemmas.List.Elements.{recursion_from_All, All-weaker, All-contains_itself}
use Rattle.std.proofs.lemmas.List.Sums.{sum_by-take-le}
use Rattle.std.proofs.lemmas.List.Sorted.{Contains-permutation, length_permutation, sum_by-IsPermutation}
use Rattle.area_cut.specs.Cut.{area_of, precedes, area_before, in_first, first_points, second_points}
use Rattle.area_cut.specs.Order.{IsInOrder}
use Rattle.area_cut.specs.Forms.Placed.{IsFirstCount}
use Rattle.area_cut.proofs.Fronts.{front_passes, sum_by-filter, filter_same}
use Rattle.area_cut.proofs.Places.{order_test, place_in_order, area_in_order}

-- the test at the place k, of so many points of which the first n are the first part
numbers_test : (k long n part total : ℕ) → 1 ≤ n → n < long → k < long → (1 ≤ k → k < n → 2 * part < total) → (n ≤ k → k + 1 < long → total ≤ 2 * part)
    → (ltb (k + 1) long && (eqb k 0 || ltb (2 * part) total)) ≡ ltb k n
numbers_test k long n part total some short inside less more = grind (arith, nat_tests)

fronts_grow : (areas order : List ℕ) (n k : ℕ) → n ≤ k → area_of areas (take n order) ≤ area_of areas (take k order)
fronts_grow areas order n k h = rw (← take-take n k order h) (sum_by-take-le (λ p. slice_index areas p) (take k order) n)

pub at_place : (areas mids points order : List ℕ) (n k : ℕ) → IsInOrder mids points order → IsFirstCount areas order (area_of areas points) n → k < length order → in_first areas mids points (get_or order k 0) ≡ ltb k n
at_place areas mids points order n k ordered count inside =
    let p = get_or order k 0 in
    let long : length order ≡ length points = length_permutation points order ordered.same in
    let place = place_in_order mids points order k ordered inside in
    let part = area_in_order areas mids points order k ordered inside in
    let test = λ (place long part : ℕ). ltb (place + 1) long && (eqb place 0 || ltb (2 * part) (area_of areas points)) in
    ap (λ (m : ℕ). test m (length points) (area_before areas mids points p)) place
    ∙ ap (λ (m : ℕ). test k m (area_before areas mids points p)) (sym long)
    ∙ ap (λ (m : ℕ). test k (length order) m) part
    ∙ numbers_test k (length order) n (area_of areas (take k order)) (area_of areas points) count.some count.short inside
    (λ some less. count.fewer k some less)
    (λ more room. let enough = count.enough (omega arith) in let grown = fronts_grow areas order n k more in omega arith)

not_past : (n k : ℕ) → 1 ≤ n → ltb k n ≡ not (ltb (n - 1) k)
not_past n k some = grind (arith, nat_tests)

-- a point of the region, by its place
agrees : (areas mids points order : List ℕ) (n : ℕ) → IsInOrder mids points order → IsFirstCount areas order (area_of areas points) n → (p : ℕ) → Contains points p
    → in_first areas mids points p ≡ not (precedes mids (get_or order (n - 1) 0) p)
agrees areas mids points order n ordered count p among =
    let at = Contains-permutation points order p ordered.same among in
    let k = at.0 in
    let is : get_or order k 0 ≡ p = get_or_default order k 0 p at.1 ∙ at.2 in
    let some = count.some in
    let short = count.short in
    sym (ap (in_first areas mids points) is) ∙ at_place areas mids points order n k ordered count at.1 ∙ not_past n k some
    ∙ ap not (sym (order_test mids points order (n - 1) k ordered (omega arith) at.1)) ∙ ap (λ (q : ℕ). not (precedes mids (get_or order (n - 1) 0) q)) is

pub first_are : (areas mids points order : List ℕ) (n : ℕ) → IsInOrder mids points order → IsFirstCount areas order (area_of areas points) n
    → first_points areas mids points ≡ filter (λ p. not (precedes mids (get_or order (n - 1) 0) p)) points
first_are areas mids points order n ordered count =
    let t = get_or order (n - 1) 0 in
    filter_same (in_first areas mids points) (λ (p : ℕ). not (precedes mids t p)) points
    (recursion_from_All (λ (p : ℕ). in_first areas mids points p ≡ not (precedes mids t p)) points (All-weaker (Contains points) (λ (p : ℕ). in_first areas mids points p ≡ not (precedes mids t p)) (agrees areas mids points order n ordered count) points (All-contains_itself points)))

not_twice : (b : Bool) → not (not b) ≡ b
not_twice true = refl
not_twice false = refl

pub second_are : (areas mids points order : List ℕ) (n : ℕ) → IsInOrder mids points order → IsFirstCount areas order (area_of areas points) n
    → second_points areas mids points ≡ filter (precedes mids (get_or order (n - 1) 0)) points
second_are areas mids points order n ordered count =
    let t = get_or order (n - 1) 0 in
    let test = λ (p : ℕ). not (in_first areas mids points p) in
    filter_same test (precedes mids t) points
    (recursion_from_All (λ (p : ℕ). test p ≡ precedes mids t p) points (All-weaker (Contains points) (λ (p : ℕ). test p ≡ precedes mids t p) (λ p c. ap not (agrees areas mids points order n ordered count p c) ∙ not_twice (precedes mids t p)) points (All-contains_itself points)))

-- the area of the first part
pub first_area : (areas mids points order : List ℕ) (n : ℕ) → IsInOrder mids points order → IsFirstCount areas order (area_of areas points) n → area_of areas (first_points areas mids points) ≡ area_of areas (take n order)
first_area areas mids points order n ordered count =
    let test = in_first areas mids points in
    let at : (i d : ℕ) → i < length order → test (get_or order i d) ≡ ltb i n = λ i d l. ap test (get_or_default order i d 0 l) ∙ at_place areas mids points order n i ordered count l in
    sum_by-filter test (λ p. slice_index areas p) points ∙ sym (sum_by-IsPermutation (λ q. cond (test q) (slice_index areas q) 0) points order ordered.same)
    ∙ front_passes test (λ p. slice_index areas p) order n (λ i d less l. at i d l ∙ lt-ltb i n less) (λ i d more l. at i d l ∙ le-ltb i n more)

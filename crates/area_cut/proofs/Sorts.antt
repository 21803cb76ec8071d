-- Points can be put in order, and the order has a shortest front.
use Rattle.std.proofs.Common.{◌≡◌, ◌≢◌, ◌⊎◌, ℕ, zero, suc, ◌+◌, ◌*◌, ◌<◌, ◌≤◌, Bool, true, false, cond, List, [], ◌∷◌, length, take, refl, ap, subst, inl, inr, arith}
use Rattle.std.specs.Prelude.{All}
use Rattle.std.specs.List.{AllPairs}
use Rattle.std.specs.List.Sorted.{IsPermutation, IsStrictlyIncreasing}
use Rattle.std.proofs.lemmas.Bool.{cases_lt}
use Rattle.std.proofs.lemmas.Bool.Decides.{nat_tests}
use Rattle.std.proofs.lemmas.List.{take_all}
use Rattle.std.proofs.lemmas.List.Elements.{All-cons, All-tail, All-head, All-weaker}
use Rattle.std.proofs.lemmas.List.Kept.{AllPairs-cons, AllPairs-from_increasing}
use Rattle.std.proofs.lemmas.List.Sorted.{IsPermutation-refl, IsPermutation-sym, IsPermutation-trans, IsPermutation-cons, IsPermutation-middle, All-permutation, length_permutation}
use Rattle.area_cut.specs.Cut.{area_of, precedes}
use Rattle.area_cut.specs.Order.{IsInOrder, IsShortestFront}

abbrev Before : List ℕ → ℕ → ℕ → Type 0
Before mids p q = precedes mids p q ≡ true

then_before : (mids : List ℕ) (p q r : ℕ) → Before mids p q → Before mids q r → Before mids p r
then_before mids p q r first second = grind (arith, nat_tests)

other_way : (mids : List ℕ) (p q : ℕ) → precedes mids p q ≡ false → p ≢ q → Before mids q p
other_way mids p q after apart = grind (arith, nat_tests)

abbrev insert_in : List ℕ → ℕ → List ℕ → List ℕ
insert_in mids p [] = p ∷ []
insert_in mids p (q ∷ order) = cond (precedes mids p q) (p ∷ q ∷ order) (q ∷ insert_in mids p order)

insert_moves : (mids : List ℕ) (p : ℕ) (order : List ℕ) → IsPermutation (p ∷ order) (insert_in mids p order)
insert_moves mids p [] = IsPermutation-refl (p ∷ [])
insert_moves mids p (q ∷ order) = by_cases (insert_moves mids p order) (precedes mids p q) where
  by_cases : IsPermutation (p ∷ order) (insert_in mids p order) → (b : Bool) → IsPermutation (p ∷ q ∷ order) (cond b (p ∷ q ∷ order) (q ∷ insert_in mids p order))
  by_cases rest true = IsPermutation-refl (p ∷ q ∷ order)
  by_cases rest false = IsPermutation-trans (p ∷ q ∷ order) (q ∷ p ∷ order) (q ∷ insert_in mids p order) (IsPermutation-sym (q ∷ p ∷ order) (p ∷ q ∷ order) (IsPermutation-middle (q ∷ []) p order)) (IsPermutation-cons q (p ∷ order) (insert_in mids p order) rest)

pairs_head : (R : ℕ → ℕ → Type 0) (p : ℕ) (ps : List ℕ) → AllPairs R (p ∷ ps) → All (R p) ps
pairs_head R p ps h = λ k d l. h 0 (suc k) d (omega arith) (omega arith)

pairs_tail : (R : ℕ → ℕ → Type 0) (p : ℕ) (ps : List ℕ) → AllPairs R (p ∷ ps) → AllPairs R ps
pairs_tail R p ps h = λ i j d l m. h (suc i) (suc j) d (omega arith) (omega arith)

insert_rises : (mids : List ℕ) (p : ℕ) (order : List ℕ) → AllPairs (Before mids) order → All (λ q. p ≢ q) order → AllPairs (Before mids) (insert_in mids p order)
insert_rises mids p [] rises apart = λ i j d l m. absurd (omega arith)
insert_rises mids p (q ∷ order) rises apart = by_cases (insert_rises mids p order (pairs_tail (Before mids) q order rises) (All-tail (λ r. p ≢ r) q order apart)) (precedes mids p q) refl where
  behind : All (Before mids q) order
  behind = pairs_head (Before mids) q order rises

  by_cases : AllPairs (Before mids) (insert_in mids p order) → (b : Bool) → precedes mids p q ≡ b → AllPairs (Before mids) (cond b (p ∷ q ∷ order) (q ∷ insert_in mids p order))
  by_cases rest true e =
      AllPairs-cons (Before mids) p (q ∷ order) (All-cons (Before mids p) q order e (All-weaker (Before mids q) (Before mids p) (λ r h. then_before mids p q r e h) order behind)) rises
  by_cases rest false e =
      AllPairs-cons (Before mids) q (insert_in mids p order) (All-permutation (Before mids q) (p ∷ order) (insert_in mids p order) (insert_moves mids p order) (All-cons (Before mids q) p order (other_way mids p q e (All-head (λ r. p ≢ r) q order apart)) behind)) rest

in_order : (mids points : List ℕ) → AllPairs (λ p q. p < q) points → (order : List ℕ) × IsInOrder mids points order
in_order mids [] h = ([], record { same = IsPermutation-refl []; rises = λ i j d l m. absurd (omega arith) })
in_order mids (p ∷ points) h =
    let rest = in_order mids points (pairs_tail (λ p q. p < q) p points h) in
    let apart : All (λ q. p ≢ q) points = All-weaker (λ q. p < q) (λ q. p ≢ q) (λ q l e. omega arith) points (pairs_head (λ p q. p < q) p points h) in (
      insert_in mids p rest.0,
      record {
        same = IsPermutation-trans (p ∷ points) (p ∷ rest.0) (insert_in mids p rest.0) (IsPermutation-cons p points rest.0 rest.1.same) (insert_moves mids p rest.0);
        rises = insert_rises mids p rest.0 rest.1.rises (All-permutation (λ q. p ≢ q) points rest.0 rest.1.same apart);
      },
    )

-- ---- the shortest front

all_enough : (areas order : List ℕ) (k : ℕ) → length order ≤ k → area_of areas order ≤ 2 * area_of areas (take k order)
all_enough areas order k full = let whole : area_of areas (take k order) ≡ area_of areas order = ap (area_of areas) (take_all k order full) in omega arith

find_front : (areas order : List ℕ) (fuel k : ℕ) → 1 ≤ k → k ≤ length order → ((m : ℕ) → 1 ≤ m → m < k → 2 * area_of areas (take m order) < area_of areas order) → length order ≤ k + fuel → (n : ℕ) × IsShortestFront areas order n
find_front areas order zero k some within fewer near = (k, record { some = some; within = within; enough = all_enough areas order k (omega arith); shortest = fewer })
find_front areas order (suc fuel) k some within fewer near = by_cases (find_front areas order fuel (k + 1)) (cases_lt (2 * area_of areas (take k order)) (area_of areas order)) (cases_lt k (length order)) where
  by_cases : (1 ≤ k + 1 → k + 1 ≤ length order → ((m : ℕ) → 1 ≤ m → m < k + 1 → 2 * area_of areas (take m order) < area_of areas order) → length order ≤ k + 1 + fuel → (n : ℕ) × IsShortestFront areas order n)
      → (2 * area_of areas (take k order) < area_of areas order) ⊎ (area_of areas order ≤ 2 * area_of areas (take k order)) → (k < length order) ⊎ (length order ≤ k) → (n : ℕ) × IsShortestFront areas order n
  by_cases again (inr enough) room = (k, record { some = some; within = within; enough = enough; shortest = fewer })
  by_cases again (inl less) (inr full) = (k, record { some = some; within = within; enough = all_enough areas order k full; shortest = fewer })
  by_cases again (inl less) (inl room) = again (omega arith) (omega arith) (λ m one below. longer m one (cases_lt m k) below) (omega arith) where
    longer : (m : ℕ) → 1 ≤ m → (m < k) ⊎ (k ≤ m) → m < k + 1 → 2 * area_of areas (take m order) < area_of areas order
    longer m one (inl before) below = fewer m one before
    longer m one (inr at) below = let same : k ≡ m = omega arith in subst (λ (j : ℕ). 2 * area_of areas (take j order) < area_of areas order) same less

pub front_is_there : (areas mids points : List ℕ) → IsStrictlyIncreasing points → 1 ≤ length points → (order : List ℕ) × ((n : ℕ) × (IsInOrder mids points order × IsShortestFront areas order n))
front_is_there areas mids points ascending some =
    let order = in_order mids points (AllPairs-from_increasing points ascending) in
    let long = length_permutation points order.0 order.1.same in
    let front = find_front areas order.0 (length order.0) 1 (omega arith) (omega arith) (λ m one below. absurd (omega arith)) (omega arith) in
    (order.0, (front.0, (order.1, front.1)))

-- What a sort of placed points leaves: the points in order.
use Rattle.std.proofs.Common.{◌≡◌, ℕ, Bool, true, false, List, [], ◌∷◌, length, get_or, refl, sym, ◌∙◌, ap, subst, arith}
use Rattle.std.specs.Prelude.{slice_index}
use Rattle.std.specs.List.{AllPairs, IsDistinct}
use Rattle.std.specs.List.Sorted.{IsPermutation, IsSortedBy, IsStrictlyIncreasing}
use Rattle.std.specs.Ordering.{nat_cmp, ordering_then, is_lt, is_eq, eq_by_cmp}
use Rattle.std.specs.Cmp.{IsStrictWeakOrder}
use Rattle.std.proofs.lemmas.Bool.Decides.{nat_tests}
use Rattle.std.proofs.lemmas.Cmp.{nat_cmp_total, on_total, then_total, eq_by_cmp_equiv}
use Rattle.std.proofs.lemmas.List.{length-map, get_or-map}
use Rattle.std.proofs.lemmas.List.Elements.{All-map, All-get_or}
use Rattle.std.proofs.lemmas.List.Sorted.{ranks_by, sorted_far, IsPermutation-map, All-permutation}
use Rattle.std.proofs.lemmas.Map.Keys.{IsDistinct-from_sorted, sorted_from_strictly_increasing, IsDistinct-IsPermutation, apart_from_distinct}
use Rattle.area_cut.specs.declared.order.Placed.{Placed}
use Rattle.area_cut.specs.Cut.{precedes}
use Rattle.area_cut.specs.Order.{IsInOrder}
use Rattle.area_cut.specs.Forms.Placed.{numbers_of, placed_points, ArePlaced}

-- by mid, and by number where these are the same
abbrev pub is_less : Placed → Placed → Bool
is_less a b = is_lt (ordering_then (nat_cmp a.mid b.mid) (nat_cmp a.point b.point))

pub less_order : IsStrictWeakOrder is_less
less_order = ranks_by (then_total (on_total (λ (p : Placed). p.mid) nat_cmp_total) (on_total (λ (p : Placed). p.point) nat_cmp_total)) (λ (p : Placed). p)

numbers_back : (mids points : List ℕ) → numbers_of (placed_points mids points) ≡ points
numbers_back mids [] = refl
numbers_back mids (p ∷ points) = ap (λ (ps : List ℕ). p ∷ ps) (numbers_back mids points)

pub placed_still : (mids points : List ℕ) (order : List Placed) → IsPermutation (placed_points mids points) order → ArePlaced mids order
placed_still mids points order moved =
    let P = λ (placed : Placed). placed.mid ≡ slice_index mids placed.point in
    All-permutation P (placed_points mids points) order moved (All-map P (λ (p : ℕ). record { mid = slice_index mids p; point = p }) points (λ k d l. refl))

-- two numbers apart, one of which isn't after the other, come one before the other
one_way : (m n a b : ℕ) → is_lt (ordering_then (nat_cmp n m) (nat_cmp b a)) ≡ false → is_eq (nat_cmp a b) ≡ false → is_lt (ordering_then (nat_cmp m n) (nat_cmp a b)) ≡ true
one_way m n a b after apart = grind (arith, nat_tests)

abbrev no_placed : Placed
no_placed = record { mid = 0; point = 0 }

pub sorted_in_order : (mids points : List ℕ) (order : List Placed) → IsStrictlyIncreasing points → IsPermutation (placed_points mids points) order → IsSortedBy is_less order → IsInOrder mids points (numbers_of order)
sorted_in_order mids points order ascending moved sorted = record { same = same; rises = rises } where
  same : IsPermutation points (numbers_of order)
  same = subst (λ (ps : List ℕ). IsPermutation ps (numbers_of order)) (numbers_back mids points) (IsPermutation-map (λ (p : Placed). p.point) (placed_points mids points) order moved)

  apart : IsDistinct (eq_by_cmp nat_cmp) (numbers_of order)
  apart = IsDistinct-IsPermutation (eq_by_cmp nat_cmp) (eq_by_cmp_equiv nat_cmp_total).symm points (numbers_of order) same (IsDistinct-from_sorted nat_cmp points (sorted_from_strictly_increasing points ascending))

  long : length (numbers_of order) ≡ length order
  long = length-map order (λ (p : Placed). p.point)

  rises : AllPairs (λ p q. precedes mids p q ≡ true) (numbers_of order)
  rises i j d less inside =
      let p = get_or order i no_placed in
      let q = get_or order j no_placed in
      let p_is : get_or (numbers_of order) i d ≡ p.point = get_or-map (λ (x : Placed). x.point) order i no_placed d (omega (arith, long)) in
      let q_is : get_or (numbers_of order) j d ≡ q.point = get_or-map (λ (x : Placed). x.point) order j no_placed d (omega (arith, long)) in
      let placed = placed_still mids points order moved in
      let P = λ (x : Placed). x.mid ≡ slice_index mids x.point in
      let p_mid : p.mid ≡ slice_index mids p.point = All-get_or P order i no_placed (omega (arith, long)) placed in
      let q_mid : q.mid ≡ slice_index mids q.point = All-get_or P order j no_placed (omega (arith, long)) placed in
      let far : is_less q p ≡ false = sorted_far is_less less_order order sorted i j no_placed (omega arith) (omega (arith, long)) in
      let differ : is_eq (nat_cmp p.point q.point) ≡ false = ap (λ (x : ℕ). is_eq (nat_cmp x q.point)) (sym p_is) ∙ ap (λ (x : ℕ). is_eq (nat_cmp (get_or (numbers_of order) i d) x)) (sym q_is) ∙ apart_from_distinct (eq_by_cmp nat_cmp) (numbers_of order) i j d apart less inside in
      let after : is_less p q ≡ true = one_way p.mid q.mid p.point q.point far differ in
      let by_mids : precedes mids p.point q.point ≡ true = ap (λ (m : ℕ). is_lt (ordering_then (nat_cmp m (slice_index mids q.point)) (nat_cmp p.point q.point))) (sym p_mid) ∙ ap (λ (m : ℕ). is_lt (ordering_then (nat_cmp p.mid m) (nat_cmp p.point q.point))) (sym q_mid) ∙ after in
      ap (λ (x : ℕ). precedes mids x (get_or (numbers_of order) j d)) p_is ∙ ap (λ (x : ℕ). precedes mids p.point x) q_is ∙ by_mids

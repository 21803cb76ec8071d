-- What a point has of the weights of a list of entries: by its parts, in another order, and summed over all points.
use Rattle.std.proofs.Common.{◌≡◌, ◌⊎◌, ℕ, zero, suc, ◌+◌, ◌<◌, ◌≤◌, Bool, true, false, cond, eqb, List, [], ◌∷◌, ◌++◌, Option, None, Some, refl, sym, ◌∙◌, ap, inl, inr, arith}
use Rattle.std.specs.Prelude.{sum_by, All}
use Rattle.std.specs.List.{filter_map, flat_map, range_with_len, cons_option}
use Rattle.std.specs.List.Sorted.{IsPermutation}
use Rattle.std.proofs.lemmas.Bool.Decides.{nat_tests}
use Rattle.std.proofs.lemmas.List.Elements.{All-head, All-tail}
use Rattle.std.proofs.lemmas.List.Sorted.{sum_by-IsPermutation}
use Rattle.std.proofs.lemmas.List.Sums.{sum_by-cons, sum_by-append}
use Rattle.net_model.specs.declared.parts.Near.{Near}
use Rattle.net_model.specs.Forms.Steps.{weight_at, as_sum}

-- what an entry gives a point
abbrev pub weight_for : ℕ → Near → ℕ
weight_for q entry = cond (eqb entry.point q) entry.weight 0

-- the sum of all weights
abbrev pub weight_sum : List Near → ℕ
weight_sum near = sum_by (λ entry. entry.weight) near

-- the entry of a sum, where it isn't 0
abbrev pub sum_of : ℕ → ℕ → Option Near
sum_of q sum = cond (eqb sum 0) None (Some (record { point = q; weight = sum }))

-- ---- by the parts of the list

pub weight_at-cons : (entry : Near) (near : List Near) (q : ℕ) → weight_at (entry ∷ near) q ≡ weight_for q entry + weight_at near q
weight_at-cons entry near q = sum_by-cons (weight_for q) entry near

pub weight_at-append : (xs ys : List Near) (q : ℕ) → weight_at (xs ++ ys) q ≡ weight_at xs q + weight_at ys q
weight_at-append xs ys q = sum_by-append (weight_for q) xs ys

pub weight_at-flat_map : {X : Type 0} (f : X → List Near) (nets : List X) (q : ℕ) → weight_at (flat_map f nets) q ≡ sum_by (λ net. weight_at (f net) q) nets
weight_at-flat_map f [] q = refl
weight_at-flat_map f (net ∷ nets) q =
    weight_at-append (f net) (flat_map f nets) q ∙ ap (λ n. weight_at (f net) q + n) (weight_at-flat_map f nets q) ∙ sym (sum_by-cons (λ x. weight_at (f x) q) net nets)

-- another order gives each point the same
pub weight_at-permutation : (xs ys : List Near) (q : ℕ) → IsPermutation xs ys → weight_at ys q ≡ weight_at xs q
weight_at-permutation xs ys q moved = sum_by-IsPermutation (weight_for q) xs ys moved

-- so the sums are the same, too
pub sums-permutation : (xs ys : List Near) (points : List ℕ) → IsPermutation xs ys → filter_map (as_sum ys) points ≡ filter_map (as_sum xs) points
sums-permutation xs ys [] moved = refl
sums-permutation xs ys (q ∷ points) moved =
    let here : as_sum ys q ≡ as_sum xs q = ap (sum_of q) (weight_at-permutation xs ys q moved) in
    ap (λ s. cons_option s (filter_map (as_sum ys) points)) here ∙ ap (cons_option (as_sum xs q)) (sums-permutation xs ys points moved)

-- ---- over all points

sum_by_same : {X : Type 0} (f g : X → ℕ) (xs : List X) → ((x : X) → f x ≡ g x) → sum_by f xs ≡ sum_by g xs
sum_by_same f g [] same = refl
sum_by_same f g (x ∷ xs) same = let e = sum_by-cons f x xs in let e' = sum_by-cons g x xs in let here = same x in let rest = sum_by_same f g xs same in omega arith

sum_by_both : {X : Type 0} (f g : X → ℕ) (xs : List X) → sum_by (λ x. f x + g x) xs ≡ sum_by f xs + sum_by g xs
sum_by_both f g [] = refl
sum_by_both f g (x ∷ xs) = omega (arith, sum_by-cons (λ y. f y + g y) x xs, sum_by-cons f x xs, sum_by-cons g x xs, sum_by_both f g xs)

sum_by_zero : {X : Type 0} (xs : List X) → sum_by (λ x. 0) xs ≡ 0
sum_by_zero [] = refl
sum_by_zero (x ∷ xs) = omega (arith, sum_by-cons (λ y. 0) x xs, sum_by_zero xs)

-- an entry gives nothing to the points after its own
after_point : (entry : Near) (a n : ℕ) → entry.point < a → sum_by (λ q. weight_for q entry) (range_with_len a n) ≡ 0
after_point entry a zero past = refl
after_point entry a (suc n) past =
    let here : weight_for a entry ≡ 0 = grind (arith, nat_tests) in
    let rest = after_point entry (a + 1) n (omega arith) in
    omega (arith, sum_by-cons (λ q. weight_for q entry) a (range_with_len (a + 1) n), here, rest)

-- over all points it gives its weight
over_points : (entry : Near) (a n : ℕ) → a ≤ entry.point → entry.point < a + n → sum_by (λ q. weight_for q entry) (range_with_len a n) ≡ entry.weight
over_points entry a zero from below = absurd (omega arith)
over_points entry a (suc n) from below = sum_by-cons (λ q. weight_for q entry) a (range_with_len (a + 1) n) ∙ by_cases (λ later. over_points entry (a + 1) n later (omega arith)) (grind arith) where
  by_cases : (a + 1 ≤ entry.point → sum_by (λ q. weight_for q entry) (range_with_len (a + 1) n) ≡ entry.weight) → (entry.point ≡ a) ⊎ (a + 1 ≤ entry.point) → weight_for a entry + sum_by (λ q. weight_for q entry) (range_with_len (a + 1) n) ≡ entry.weight
  by_cases rest (inl at) =
      let here : weight_for a entry ≡ entry.weight = grind (arith, nat_tests) in
      let none = after_point entry (a + 1) n (omega arith) in
      omega (arith, here, none)
  by_cases rest (inr later) =
      let here : weight_for a entry ≡ 0 = grind (arith, nat_tests) in
      omega (arith, here, rest later)

all_points : (near : List Near) (n : ℕ) → All (λ entry. entry.point < n) near → sum_by (weight_at near) (range_with_len 0 n) ≡ weight_sum near
all_points [] n below = sum_by_zero (range_with_len 0 n)
all_points (entry ∷ near) n below =
    let points = range_with_len 0 n in
    let split = sum_by_same (weight_at (entry ∷ near)) (λ q. weight_for q entry + weight_at near q) points (weight_at-cons entry near) in
    let parts = sum_by_both (λ q. weight_for q entry) (weight_at near) points in
    let inside = All-head (λ e. e.point < n) entry near below in
    let here = over_points entry 0 n (omega arith) (omega arith) in
    let rest = all_points near n (All-tail (λ e. e.point < n) entry near below) in
    omega (arith, split, parts, here, rest, sum_by-cons (λ e. e.weight) entry near)

-- what the entries of the sums give is what the points have
sums_of_points : (near : List Near) (points : List ℕ) → weight_sum (filter_map (as_sum near) points) ≡ sum_by (weight_at near) points
sums_of_points near [] = refl
sums_of_points near (q ∷ points) = by_test (eqb (weight_at near q) 0) refl ∙ ap (λ n. weight_at near q + n) (sums_of_points near points) ∙ sym (sum_by-cons (weight_at near) q points) where
  sums : List Near
  sums = filter_map (as_sum near) points

  one : Near
  one = record { point = q; weight = weight_at near q }

  by_test : (b : Bool) → eqb (weight_at near q) 0 ≡ b → weight_sum (cons_option (cond b None (Some one)) sums) ≡ weight_at near q + weight_sum sums
  by_test true e = let none : weight_at near q ≡ 0 = grind (arith, nat_tests) in omega arith
  by_test false e = sum_by-cons (λ entry. entry.weight) one sums

-- the sums of the points have the same weight together as the entries
pub weight_sum-as_sum : (near : List Near) (n : ℕ) → All (λ entry. entry.point < n) near → weight_sum (filter_map (as_sum near) (range_with_len 0 n)) ≡ weight_sum near
weight_sum-as_sum near n below = sums_of_points near (range_with_len 0 n) ∙ all_points near n below

-- How many pairs of numbers there are below a number, where the two of a pair have a property and not both of them another one.
use Rattle.std.proofs.Common.{◌≡◌, ℕ, zero, suc, ◌+◌, ◌-◌, ◌*◌, Bool, true, false, not, ◌||◌, cond, eqb, ltb, List, [], ◌∷◌, refl, sym, ◌∙◌, ap, subst, arith, add-one, zero-add}
use Rattle.std.specs.Prelude.{◌&&◌, sum_by, count_by}
use Rattle.std.specs.List.{range_with_len}
use Rattle.std.proofs.Math.Nat.{suc-mul, mul-suc}
use Rattle.std.proofs.lemmas.Bool.Decides.{nat_tests}
use Rattle.std.proofs.lemmas.List.FromFn.{sum_by-map-range_with_len_more}
use Rattle.std.proofs.lemmas.List.Sums.{sum_by-cons}
use Rattle.net_model.specs.Network.{pairs}
use Rattle.net_model.proofs.Ranges.{map_same}

-- with one number more, it makes a pair with each of the others
product_more : (k : ℕ) → (k + 1) * (k + 1 - 1) ≡ k * (k - 1) + k * 2
product_more zero = refl
product_more (suc k) =
    let a : suc k + 1 ≡ suc (suc k) = omega arith in
    let b : suc k + 1 - 1 ≡ suc k = omega arith in
    let c : suc k - 1 ≡ k = omega arith in
    let left : (suc k + 1) * (suc k + 1 - 1) ≡ suc (suc k) * suc k = ap (λ n. n * (suc k + 1 - 1)) a ∙ ap (λ n. suc (suc k) * n) b in
    let right : suc k * (suc k - 1) ≡ suc k * k = ap (λ n. suc k * n) c in
    omega (arith, left, right, suc-mul (suc k) (suc k), mul-suc (suc k) k)

pub pairs_more : (k : ℕ) → pairs (k + 1) ≡ pairs k + k
pairs_more k = let e = product_more k in omega (arith, e)

-- counts over a range that has one number more
sum_more : (g : ℕ → ℕ) (n : ℕ) → sum_by g (range_with_len 0 (n + 1)) ≡ sum_by g (range_with_len 0 n) + g n
sum_more g n =
    sym (ap (sum_by g) (map_same (range_with_len 0 (n + 1)))) ∙ sum_by-map-range_with_len_more g (λ i. i) 0 n n (zero-add n)
    ∙ ap (λ xs. sum_by g xs + g n) (map_same (range_with_len 0 n))

pub count_more : (p : ℕ → Bool) (n : ℕ) → count_by p (range_with_len 0 (n + 1)) ≡ count_by p (range_with_len 0 n) + cond (p n) 1 0
count_more p n = sum_more (λ i. cond (p i) 1 0) n

abbrev one_if : Bool → ℕ
one_if b = cond b 1 0

-- what passes one test or the other, and never both
pub count_split : (p q r : ℕ → Bool) (xs : List ℕ) → ((x : ℕ) → cond (p x) 1 0 + cond (q x) 1 0 ≡ cond (r x) 1 0) → count_by p xs + count_by q xs ≡ count_by r xs
count_split p q r [] h = refl
count_split p q r (x ∷ xs) h =
    omega (arith, sum_by-cons (λ y. cond (p y) 1 0) x xs, sum_by-cons (λ y. cond (q y) 1 0) x xs, sum_by-cons (λ y. cond (r y) 1 0) x xs, count_split p q r xs h, h x)

pub count_none : (p : ℕ → Bool) (xs : List ℕ) → ((x : ℕ) → p x ≡ false) → count_by p xs ≡ 0
count_none p [] h = refl
count_none p (x ∷ xs) h = omega (arith, sum_by-cons (λ y. cond (p y) 1 0) x xs, count_none p xs h, ap one_if (h x))

pub count_same : (p q : ℕ → Bool) (xs : List ℕ) → ((x : ℕ) → p x ≡ q x) → count_by p xs ≡ count_by q xs
count_same p q [] h = refl
count_same p q (x ∷ xs) h =
    omega (arith, sum_by-cons (λ y. cond (p y) 1 0) x xs, sum_by-cons (λ y. cond (q y) 1 0) x xs, count_same p q xs h, ap one_if (h x))

-- a number below n is one of those below n
pub count_one : (a n : ℕ) → count_by (λ j. eqb a j) (range_with_len 0 n) ≡ cond (ltb a n) 1 0
count_one a zero = grind (arith, nat_tests)
count_one a (suc n) =
    let P : ℕ → Type 0 = λ m. count_by (λ j. eqb a j) (range_with_len 0 m) ≡ cond (ltb a m) 1 0 in
    let so_far = count_one a n in
    let more = count_more (λ j. eqb a j) n in
    let step : cond (ltb a n) 1 0 + cond (eqb a n) 1 0 ≡ cond (ltb a (n + 1)) 1 0 = grind (arith, nat_tests) in
    let next : P (n + 1) = omega (arith, so_far, more, step) in
    subst P (add-one n) next

module _ (has mov : ℕ → Bool) where
  -- whether the two are a pair that counts, where pairs count at all
  abbrev pub pair_test : Bool → ℕ → ℕ → Bool
  pair_test counts i j = has i && (has j && ((mov i || mov j) && counts))

  abbrev pub is_left : ℕ → Bool
  is_left j = has j && not (mov j)

  row_none : (i : ℕ) (xs : List ℕ) (b : Bool) → has i ≡ b → b ≡ false → count_by (pair_test true i) xs ≡ 0
  row_none i xs b e none = count_none (pair_test true i) xs (λ j. ap (λ c. c && (has j && ((mov i || mov j) && true))) (e ∙ none))

  row_movable : (i : ℕ) (xs : List ℕ) → has i ≡ true → mov i ≡ true → count_by (pair_test true i) xs ≡ count_by has xs
  row_movable i xs e m = count_same (pair_test true i) has xs (λ j. ap (λ c. c && (has j && ((mov i || mov j) && true))) e ∙ ap (λ c. has j && ((c || mov j) && true)) m ∙ both (has j)) where
    both : (b : Bool) → (b && true) ≡ b
    both true = refl
    both false = refl

  row_fixed : (i : ℕ) (xs : List ℕ) → has i ≡ true → mov i ≡ false → count_by (pair_test true i) xs + count_by is_left xs ≡ count_by has xs
  row_fixed i xs e m = count_split (pair_test true i) is_left has xs (λ j. ap (λ c. cond (c && (has j && ((mov i || mov j) && true))) 1 0 + cond (is_left j) 1 0) e ∙ ap (λ c. cond (has j && ((c || mov j) && true)) 1 0 + cond (is_left j) 1 0) m ∙ either (has j) (mov j)) where
    either : (b c : Bool) → cond (b && (c && true)) 1 0 + cond (b && not c) 1 0 ≡ cond b 1 0
    either true true = refl
    either true false = refl
    either false c = refl

  abbrev pub all_pairs : Bool → ℕ → ℕ
  all_pairs counts n = sum_by (λ i. count_by (pair_test counts i) (range_with_len 0 i)) (range_with_len 0 n)

  row_step : (n : ℕ) (b c : Bool) → has n ≡ b → mov n ≡ c
      → (u f k row : ℕ) → u + pairs f ≡ pairs k → (b ≡ false → row ≡ 0) → (b ≡ true → c ≡ true → row ≡ k) → (b ≡ true → c ≡ false → row + f ≡ k)
      → u + row + pairs (f + cond (b && not c) 1 0) ≡ pairs (k + cond b 1 0)
  row_step n false c e m u f k row so_far none some some_fixed =
      let zero_row = none refl in
      let same_f : f + 0 ≡ f = omega arith in
      let same_k : k + 0 ≡ k = omega arith in
      omega (arith, so_far, zero_row, ap pairs same_f, ap pairs same_k)
  row_step n true true e m u f k row so_far none some some_fixed =
      let is_row = some refl refl in
      let same_f : f + 0 ≡ f = omega arith in
      omega (arith, so_far, is_row, pairs_more k, ap pairs same_f)
  row_step n true false e m u f k row so_far none some some_fixed =
      let is_row = some_fixed refl refl in omega (arith, so_far, is_row, pairs_more k, pairs_more f)

  -- all pairs are those that count and those that don't
  pub pairs_left : (n : ℕ) → all_pairs true n + pairs (count_by is_left (range_with_len 0 n)) ≡ pairs (count_by has (range_with_len 0 n))
  pairs_left zero = refl
  pairs_left (suc n) =
      let P : ℕ → Type 0 = λ m. all_pairs true m + pairs (count_by is_left (range_with_len 0 m)) ≡ pairs (count_by has (range_with_len 0 m)) in
      let row = count_by (pair_test true n) (range_with_len 0 n) in
      let step = row_step n (has n) (mov n) refl refl (all_pairs true n) (count_by is_left (range_with_len 0 n)) (count_by has (range_with_len 0 n)) row (pairs_left n)
      (λ none. row_none n (range_with_len 0 n) (has n) refl none) (λ e m. row_movable n (range_with_len 0 n) e m) (λ e m. row_fixed n (range_with_len 0 n) e m) in
      let next : P (n + 1) = omega (arith, step, sum_more (λ i. count_by (pair_test true i) (range_with_len 0 i)) n, ap pairs (count_more is_left n), ap pairs (count_more has n)) in
      subst P (add-one n) next

  -- none where pairs don't count
  none_count : (a b m : Bool) → (a && (b && (m && false))) ≡ false
  none_count true true true = refl
  none_count true true false = refl
  none_count true false m = refl
  none_count false b m = refl

  no_sum : (xs : List ℕ) → sum_by (λ i. count_by (pair_test false i) (range_with_len 0 i)) xs ≡ 0
  no_sum [] = refl
  no_sum (x ∷ xs) =
      omega (arith, sum_by-cons (λ i. count_by (pair_test false i) (range_with_len 0 i)) x xs, no_sum xs, count_none (pair_test false x) (range_with_len 0 x) (λ j. none_count (has x) (has j) (mov x || mov j)))

  pub no_pairs : (n : ℕ) → all_pairs false n ≡ 0
  no_pairs n = no_sum (range_with_len 0 n)

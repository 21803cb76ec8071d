-- Numbers can be put in an order that tells all of them apart, and in one way only.
use Rattle.std.proofs.Common.{◌≡◌, ◌≢◌, ◌⊎◌, ℕ, suc, ◌+◌, ◌≤◌, Bool, true, false, cond, eqb, List, [], ◌∷◌, refl, sym, ap, ◌∙◌, subst, inl, inr, arith}
use Rattle.std.specs.Prelude.{All, slice_index}
use Rattle.std.specs.declared.cmp.Ordering.{Ordering}
use Rattle.std.specs.declared.cmp.Ordering.TheVariants.{Less, Equal, Greater}
use Rattle.std.specs.Ordering.{is_lt, ordering_reverse, ordering_then, nat_cmp}
use Rattle.std.specs.Cmp.{IsTotalOrder, IsStrictWeakOrder}
use Rattle.std.specs.List.{AllPairs, sum_by}
use Rattle.std.specs.List.Sorted.{IsPermutation, IsSorted}
use Rattle.std.proofs.lemmas.Bool.{true≢false, cases_lt, cases_eq}
use Rattle.std.proofs.lemmas.Bool.Decides.{nat_tests}
use Rattle.std.proofs.lemmas.Cmp.{ranked}
use Rattle.std.proofs.lemmas.List.Elements.{All-cons, All-weaker}
use Rattle.std.proofs.lemmas.List.Kept.{AllPairs-cons}
use Rattle.std.proofs.lemmas.List.Sums.{sum_by-cons, get_or-le-sum_by}
use Rattle.std.proofs.lemmas.List.Sorted.{ranks_by, sorted_far, sum_by-IsPermutation, IsPermutation-refl, IsPermutation-sym, IsPermutation-trans, IsPermutation-cons, IsPermutation-middle, All-permutation}
use Rattle.row_legal.proofs.Locating.{StandsAt, later}

-- ---- how often a number stands in a list

abbrev pub one_if_same : ℕ → ℕ → ℕ
one_if_same x y = cond (eqb y x) 1 0

abbrev pub often : ℕ → List ℕ → ℕ
often x xs = sum_by (one_if_same x) xs

pub one_if : (x y : ℕ) → y ≡ x → one_if_same x y ≡ 1
one_if x y same = grind (arith, nat_tests)

pub none_if : (x y : ℕ) → y ≢ x → one_if_same x y ≡ 0
none_if x y other = grind (arith, nat_tests)

pub stands_once : (x : ℕ) (xs : List ℕ) → 1 ≤ often x xs → StandsAt xs x
stands_once x [] some = absurd (omega arith)
stands_once x (y ∷ xs) some = elim (cases_eq y x) [
  | inl same ↦ record { at = 0; there = omega arith; is = same }
  | inr other ↦ later x y xs (stands_once x xs (omega (arith, some, sum_by-cons (one_if_same x) y xs, none_if x y other)))
]

pub often_some : (x : ℕ) (xs : List ℕ) → StandsAt xs x → 1 ≤ often x xs
often_some x xs at = omega (arith, get_or-le-sum_by (one_if_same x) xs at.at 0 at.there, one_if x (slice_index xs at.at) at.is)

often_head : (x : ℕ) (xs : List ℕ) → 1 ≤ often x (x ∷ xs)
often_head x xs = often_some x (x ∷ xs) (record { at = 0; there = omega arith; is = refl })

pub often_moved : (x : ℕ) (xs ys : List ℕ) → IsPermutation xs ys → often x ys ≡ often x xs
often_moved x xs ys moved = sum_by-IsPermutation (one_if_same x) xs ys moved

-- ---- orders

-- an order that ties no two numbers
pub record TellsApart (cmp : ℕ → ℕ → Ordering) : Type 0 where
  pub total : IsTotalOrder cmp
  pub ties : (a b : ℕ) → cmp a b ≡ Equal → a ≡ b

pub last_ties : (p q : Ordering) → ordering_then p q ≡ Equal → q ≡ Equal
last_ties Less q tie = cc
last_ties Equal q tie = tie
last_ties Greater q tie = cc

pub number_ties : (a b : ℕ) → nat_cmp a b ≡ Equal → a ≡ b
number_ties a b tie = ranked a b Equal (sym tie)

abbrev less_by : (ℕ → ℕ → Ordering) → ℕ → ℕ → Bool
less_by cmp a b = is_lt (cmp a b)

weak : (cmp : ℕ → ℕ → Ordering) → IsTotalOrder cmp → IsStrictWeakOrder (less_by cmp)
weak cmp total = ranks_by total (λ (a : ℕ). a)

equal_by : (p q : Ordering) → p ≡ ordering_reverse q → is_lt p ≡ false → is_lt q ≡ false → p ≡ Equal
equal_by Less q turned first second = absurd (true≢false first)
equal_by Equal q turned first second = refl
equal_by Greater Less turned first second = absurd (true≢false second)
equal_by Greater Equal turned first second = turned
equal_by Greater Greater turned first second = cc

neither : (cmp : ℕ → ℕ → Ordering) → TellsApart cmp → (a b : ℕ) → less_by cmp a b ≡ false → less_by cmp b a ≡ false → a ≡ b
neither cmp tells a b first second = tells.ties a b (equal_by (cmp a b) (cmp b a) (tells.total.antisymm a b) first second)

-- the second isn't before the first
abbrev Behind : (ℕ → ℕ → Ordering) → ℕ → ℕ → Type 0
Behind cmp a b = less_by cmp b a ≡ false

-- ---- one way

pairs_head : (R : ℕ → ℕ → Type 0) (x : ℕ) (xs : List ℕ) → AllPairs R (x ∷ xs) → All (R x) xs
pairs_head R x xs h = λ k d l. h 0 (suc k) d (omega arith) (omega arith)

pairs_tail : (R : ℕ → ℕ → Type 0) (x : ℕ) (xs : List ℕ) → AllPairs R (x ∷ xs) → AllPairs R xs
pairs_tail R x xs h = λ i j d l m. h (suc i) (suc j) d (omega arith) (omega arith)

-- a number in a list in order is its first one or isn't before that
first_or_behind : (cmp : ℕ → ℕ → Ordering) (x y : ℕ) (ys : List ℕ) → AllPairs (Behind cmp) (y ∷ ys) → StandsAt (y ∷ ys) x → (y ≡ x) ⊎ Behind cmp y x
first_or_behind cmp x y ys ordered at = elim (cases_lt 0 at.at) [
  | inl more ↦ inr (subst (Behind cmp y) at.is (ordered 0 at.at 0 more at.there))
  | inr none ↦ let front : 0 ≡ at.at = omega arith in inl (ap (slice_index (y ∷ ys)) front ∙ at.is)
]

same_head : (cmp : ℕ → ℕ → Ordering) → TellsApart cmp → (x y : ℕ) (xs ys : List ℕ) → StandsAt (y ∷ ys) x → StandsAt (x ∷ xs) y
    → AllPairs (Behind cmp) (x ∷ xs) → AllPairs (Behind cmp) (y ∷ ys) → x ≡ y
same_head cmp tells x y xs ys of_x of_y up_x up_y = elim (first_or_behind cmp x y ys up_y of_x) [
  | inl same ↦ sym same
  | inr one ↦ elim (first_or_behind cmp y x xs up_x of_y) [
    | inl same ↦ same
    | inr two ↦ neither cmp tells x y one two
  ]
]

one_way : (cmp : ℕ → ℕ → Ordering) → TellsApart cmp → (xs ys : List ℕ) → ((z : ℕ) → often z ys ≡ often z xs) → AllPairs (Behind cmp) xs → AllPairs (Behind cmp) ys → xs ≡ ys
one_way cmp tells [] [] same up_x up_y = refl
one_way cmp tells [] (y ∷ ys) same up_x up_y = let none : often y (y ∷ ys) ≡ 0 = same y in absurd (omega (arith, none, often_head y ys))
one_way cmp tells (x ∷ xs) [] same up_x up_y = let none : 0 ≡ often x (x ∷ xs) = same x in absurd (omega (arith, none, often_head x xs))
one_way cmp tells (x ∷ xs) (y ∷ ys) same up_x up_y =
    let head = same_head cmp tells x y xs ys (stands_once x (y ∷ ys) (omega (arith, same x, often_head x xs))) (stands_once y (x ∷ xs) (omega (arith, same y, often_head y ys))) up_x up_y in
    let rest = one_way cmp tells xs ys (λ z. omega (arith, same z, sum_by-cons (one_if_same z) x xs, sum_by-cons (one_if_same z) y ys, ap (one_if_same z) head))
    (pairs_tail (Behind cmp) x xs up_x) (pairs_tail (Behind cmp) y ys up_y) in
    ap (λ h. h ∷ xs) head ∙ ap (λ t. y ∷ t) rest

pairs_of : (cmp : ℕ → ℕ → Ordering) → IsTotalOrder cmp → (xs : List ℕ) → IsSorted cmp xs → AllPairs (Behind cmp) xs
pairs_of cmp total xs sorted = λ i j d lt there. sorted_far (less_by cmp) (weak cmp total) xs sorted i j d (omega arith) there

-- two lists in order with the numbers of a third are the same
pub one_order : (cmp : ℕ → ℕ → Ordering) → TellsApart cmp → (zs xs ys : List ℕ) → IsPermutation zs xs → IsPermutation zs ys → IsSorted cmp xs → IsSorted cmp ys → xs ≡ ys
one_order cmp tells zs xs ys to_x to_y up_x up_y =
    one_way cmp tells xs ys (λ z. often_moved z zs ys to_y ∙ sym (often_moved z zs xs to_x)) (pairs_of cmp tells.total xs up_x) (pairs_of cmp tells.total ys up_y)

-- ---- some way

abbrev insert_in : (ℕ → ℕ → Ordering) → ℕ → List ℕ → List ℕ
insert_in cmp x [] = x ∷ []
insert_in cmp x (y ∷ ys) = cond (less_by cmp x y) (x ∷ y ∷ ys) (y ∷ insert_in cmp x ys)

insert_moves : (cmp : ℕ → ℕ → Ordering) (x : ℕ) (ys : List ℕ) → IsPermutation (x ∷ ys) (insert_in cmp x ys)
insert_moves cmp x [] = IsPermutation-refl (x ∷ [])
insert_moves cmp x (y ∷ ys) = by_cases (insert_moves cmp x ys) (less_by cmp x y) where
  by_cases : IsPermutation (x ∷ ys) (insert_in cmp x ys) → (b : Bool) → IsPermutation (x ∷ y ∷ ys) (cond b (x ∷ y ∷ ys) (y ∷ insert_in cmp x ys))
  by_cases rest true = IsPermutation-refl (x ∷ y ∷ ys)
  by_cases rest false = IsPermutation-trans (x ∷ y ∷ ys) (y ∷ x ∷ ys) (y ∷ insert_in cmp x ys) (IsPermutation-sym (y ∷ x ∷ ys) (x ∷ y ∷ ys) (IsPermutation-middle (y ∷ []) x ys)) (IsPermutation-cons y (x ∷ ys) (insert_in cmp x ys) rest)

insert_rises : (cmp : ℕ → ℕ → Ordering) → IsTotalOrder cmp → (x : ℕ) (ys : List ℕ) → AllPairs (Behind cmp) ys → AllPairs (Behind cmp) (insert_in cmp x ys)
insert_rises cmp total x [] rises = λ i j d l m. absurd (omega arith)
insert_rises cmp total x (y ∷ ys) rises = by_cases (insert_rises cmp total x ys (pairs_tail (Behind cmp) y ys rises)) (less_by cmp x y) refl where
  behind : All (Behind cmp y) ys
  behind = pairs_head (Behind cmp) y ys rises

  by_cases : AllPairs (Behind cmp) (insert_in cmp x ys) → (b : Bool) → less_by cmp x y ≡ b → AllPairs (Behind cmp) (cond b (x ∷ y ∷ ys) (y ∷ insert_in cmp x ys))
  by_cases rest true e =
      let first : Behind cmp x y = (weak cmp total).one_way x y e in
      AllPairs-cons (Behind cmp) x (y ∷ ys) (All-cons (Behind cmp x) y ys first (All-weaker (Behind cmp y) (Behind cmp x) (λ z h. (weak cmp total).chain z y x h first) ys behind)) rises
  by_cases rest false e =
      AllPairs-cons (Behind cmp) y (insert_in cmp x ys) (All-permutation (Behind cmp y) (x ∷ ys) (insert_in cmp x ys) (insert_moves cmp x ys) (All-cons (Behind cmp y) x ys e behind)) rest

-- a list with these numbers, in order
record IsPutInOrder (cmp : ℕ → ℕ → Ordering) (xs ys : List ℕ) : Type 0 where
  all : IsPermutation xs ys
  rises : AllPairs (Behind cmp) ys

put_in_order : (cmp : ℕ → ℕ → Ordering) → IsTotalOrder cmp → (xs : List ℕ) → (ys : List ℕ) × IsPutInOrder cmp xs ys
put_in_order cmp total [] = ([], record { all = IsPermutation-refl []; rises = λ i j d l m. absurd (omega arith) })
put_in_order cmp total (x ∷ xs) =
    let rest = put_in_order cmp total xs in (
      insert_in cmp x rest.0,
      record {
        all = IsPermutation-trans (x ∷ xs) (x ∷ rest.0) (insert_in cmp x rest.0) (IsPermutation-cons x xs rest.0 rest.1.all) (insert_moves cmp x rest.0);
        rises = insert_rises cmp total x rest.0 rest.1.rises;
      },
    )

-- the numbers of a list, in order
pub record Ordered (cmp : ℕ → ℕ → Ordering) (xs : List ℕ) : Type 0 where
  pub list : List ℕ
  pub all : IsPermutation xs list
  pub sorted : IsSorted cmp list

pub in_order : (cmp : ℕ → ℕ → Ordering) → IsTotalOrder cmp → (xs : List ℕ) → Ordered cmp xs
in_order cmp total xs =
    let ordered = put_in_order cmp total xs in
    record { list = ordered.0; all = ordered.1.all; sorted = λ k d low high. ordered.1.rises k (k + 1) d (omega arith) high }

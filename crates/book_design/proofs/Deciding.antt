-- What can be decided: tests on numbers, and searches below a bound.
use Rattle.std.proofs.Common.{◌≡◌, ℕ, ◌<◌, ◌⊎◌, inl, inr, ℤ, ◌<ℤ◌, Bool, true, false, List, subst, ⊎_elim, arith, zero, suc, refl}
use Rattle.std.specs.Prelude.{bytes_eq}
use Rattle.std.proofs.lemmas.Bool.{cases_lt, cases_eq}
use Rattle.std.proofs.lemmas.Int.{ints, by_lt_z}
use Rattle.std.proofs.lemmas.Slice.Eq.{bytes_eq-Decides}
use Rattle.book_design.specs.Faults.{IsFirst}

-- it holds, or it doesn't
abbrev pub IsDecided : Type 0 → Type 0
IsDecided A = A ⊎ (A → ⊥)

pub decided_by : {A B : Type 0} → (A → B) → (B → A) → IsDecided A → IsDecided B
decided_by to back (inl a) = inl (to a)
decided_by to back (inr never) = inr (λ b. never (back b))

pub decided_both : {A B : Type 0} → IsDecided A → IsDecided B → IsDecided (A × B)
decided_both (inl a) (inl b) = inl (a, b)
decided_both (inl a) (inr never) = inr (λ h. never h.1)
decided_both (inr never) b = inr (λ h. never h.0)

pub decided_either : {A B : Type 0} → IsDecided A → IsDecided B → IsDecided (A ⊎ B)
decided_either (inl a) b = inl (inl a)
decided_either (inr never) (inl b) = inl (inr b)
decided_either {A} {B} (inr never) (inr none) = inr neither where
  neither : A ⊎ B → ⊥
  neither (inl a) = never a
  neither (inr b) = none b

pub decided_not : {A : Type 0} → IsDecided A → IsDecided (A → ⊥)
decided_not (inl a) = inr (λ never. never a)
decided_not (inr never) = inl never

pub decide_less : (a b : ℕ) → IsDecided (a < b)
decide_less a b = ⊎_elim (λ less. inl less) (λ more. inr (λ less. omega arith)) (cases_lt a b)

pub decide_less_int : (x y : ℤ) → IsDecided (x <ℤ y)
decide_less_int x y = by_lt_z x y (λ less. inl less) (λ more. inr (λ less. omega (arith, ints)))

pub decide_same_int : (x y : ℤ) → IsDecided (x ≡ y)
decide_same_int x y = by_lt_z x y
    (λ less. inr (λ e. let t = e in omega (arith, ints)))
    (λ more. by_lt_z y x (λ less. inr (λ e. let t = e in omega (arith, ints))) (λ same. inl (omega (arith, ints))))

pub decide_name : (a b : List ℕ) → IsDecided (a ≡ b)
decide_name a b = by (bytes_eq a b) refl where
  by : (t : Bool) → bytes_eq a b ≡ t → IsDecided (a ≡ b)
  by true e = inl ((bytes_eq-Decides a b).0 e)
  by false e = inr (λ same. let yes : bytes_eq a b ≡ true = (bytes_eq-Decides a b).1 same in absurd cc)

pub decide_flag : (a : Bool) (b : Bool) → IsDecided (a ≡ b)
decide_flag true true = inl refl
decide_flag false false = inl refl
decide_flag true false = inr (λ e. absurd cc)
decide_flag false true = inr (λ e. absurd cc)

-- the first number below a bound of which it holds
pub first_below : (Holds : ℕ → Type 0) → ((i : ℕ) → IsDecided (Holds i)) → (n : ℕ) → ((i : ℕ) × (i < n) × IsFirst Holds i) ⊎ ((i : ℕ) → i < n → Holds i → ⊥)
first_below Holds decide zero = inr (λ i below h. omega arith)
first_below Holds decide (suc n) = next (first_below Holds decide n) (decide n) where
  next : ((i : ℕ) × (i < n) × IsFirst Holds i) ⊎ ((i : ℕ) → i < n → Holds i → ⊥) → IsDecided (Holds n) → ((i : ℕ) × (i < suc n) × IsFirst Holds i) ⊎ ((i : ℕ) → i < suc n → Holds i → ⊥)
  next (inl found) here = inl (found.0, let b = found.1 in omega arith, found.2)
  next (inr none) (inl here) = inl (n, omega arith, record { here = here; not_before = none })
  next (inr none) (inr never) = inr (λ i below h. ⊎_elim (λ (e : i ≡ n). never (subst Holds e h)) (λ apart. none i (omega arith) h) (cases_eq i n))

-- the first of which it holds, where it holds below a bound alone
pub first_or_none : (Holds : ℕ → Type 0) (n : ℕ) → ((i : ℕ) → Holds i → i < n) → ((i : ℕ) → IsDecided (Holds i)) → ((i : ℕ) × IsFirst Holds i) ⊎ ((i : ℕ) → Holds i → ⊥)
first_or_none Holds n within decide = ⊎_elim (λ found. inl (found.0, found.2)) (λ none. inr (λ i h. none i (within i h) h)) (first_below Holds decide n)

-- some number below a bound
pub decide_some : (Holds : ℕ → Type 0) (n : ℕ) → ((i : ℕ) → IsDecided (Holds i)) → IsDecided ((i : ℕ) × (i < n) × Holds i)
decide_some Holds n decide = ⊎_elim (λ found. inl (found.0, found.1, found.2.here)) (λ none. inr (λ some. none some.0 some.1 some.2)) (first_below Holds decide n)

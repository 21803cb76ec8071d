-- The smallest rectangle around subrows, one subrow at a time.
use Rattle.std.proofs.Common.{◌≡◌, ℕ, ◌+◌, ◌<◌, Bool, true, false, cond, int_lt, List, length, Option, Some, None, refl, sym, ap, ◌∙◌, subst, ⊎_elim, arith, ℤ, ◌+ℤ◌}
use Rattle.std.proofs.lemmas.Bool.{cases_eq}
use Rattle.std.proofs.lemmas.Int.{ints, clamps}
use Rattle.std.specs.Int.{int_min, int_max}
use Rattle.book_design.specs.declared.strips.Strip.{Strip as Kept}
use Rattle.book_design.specs.declared.parts.Core.{Core}
use Rattle.book_design.specs.Forms.Parts.{kept_at}
use Rattle.book_design.specs.Forms.Assembly.{HasSiteBefore, IsLowestEnd, IsHighestEnd, IsCoreOf, core_with}

-- that rectangle, or none where none of them has a site
abbrev pub IsCoreUpTo : ℤ → List Kept → ℕ → Option Core → Type 0
IsCoreUpTo height kept i None = (s : ℕ) → HasSiteBefore kept i s → ⊥
IsCoreUpTo height kept i (Some core) = IsCoreOf height kept i core

back : (kept : List Kept) (i : ℕ) → (kept_at kept i).sites ≡ 0 → (s : ℕ) → HasSiteBefore kept (i + 1) s → HasSiteBefore kept i s
back kept i e s h = (⊎_elim (λ (same : s ≡ i). let t = ap (λ k. (kept_at kept k).sites) same in let z = h.1 in absurd (omega arith)) (λ apart. let z = h.0 in omega arith) (cases_eq s i), h.1)

forth : (kept : List Kept) (i : ℕ) (s : ℕ) → HasSiteBefore kept i s → HasSiteBefore kept (i + 1) s
forth kept i s h = (let z = h.0 in omega arith, h.1)

least_same : (end : Kept → ℤ) (kept : List Kept) (i : ℕ) (v : ℤ) → (kept_at kept i).sites ≡ 0 → IsLowestEnd end kept i v → IsLowestEnd end kept (i + 1) v
least_same end kept i v e h = record { least = λ s w. h.least s (back kept i e s w); there = (h.there.0, forth kept i h.there.0 h.there.1, h.there.2) }

greatest_same : (end : Kept → ℤ) (kept : List Kept) (i : ℕ) (v : ℤ) → (kept_at kept i).sites ≡ 0 → IsHighestEnd end kept i v → IsHighestEnd end kept (i + 1) v
greatest_same end kept i v e h = record { greatest = λ s w. h.greatest s (back kept i e s w); there = (h.there.0, forth kept i h.there.0 h.there.1, h.there.2) }

least_first : (end : Kept → ℤ) (kept : List Kept) (i : ℕ) → 0 < (kept_at kept i).sites → ((s : ℕ) → HasSiteBefore kept i s → ⊥) → IsLowestEnd end kept (i + 1) (end (kept_at kept i))
least_first end kept i e none = record {
  least = λ s w. ⊎_elim (λ (same : s ≡ i). let t = ap (λ k. end (kept_at kept k)) same in omega (arith, ints)) (λ apart. absurd (none s (let z = w.0 in omega arith, w.1))) (cases_eq s i);
  there = (i, (omega arith, e), refl);
}

greatest_first : (end : Kept → ℤ) (kept : List Kept) (i : ℕ) → 0 < (kept_at kept i).sites → ((s : ℕ) → HasSiteBefore kept i s → ⊥) → IsHighestEnd end kept (i + 1) (end (kept_at kept i))
greatest_first end kept i e none = record {
  greatest = λ s w. ⊎_elim (λ (same : s ≡ i). let t = ap (λ k. end (kept_at kept k)) same in omega (arith, ints)) (λ apart. absurd (none s (let z = w.0 in omega arith, w.1))) (cases_eq s i);
  there = (i, (omega arith, e), refl);
}

either : (end : Kept → ℤ) (kept : List Kept) (i : ℕ) (v : ℤ) (t : Bool) → 0 < (kept_at kept i).sites → (s : ℕ) × HasSiteBefore kept i s × (end (kept_at kept s) ≡ v) → (s : ℕ) × HasSiteBefore kept (i + 1) s × (end (kept_at kept s) ≡ cond t (end (kept_at kept i)) v)
either end kept i v true e h = (i, (omega arith, e), refl)
either end kept i v false e h = (h.0, forth kept i h.0 h.1, h.2)

other : (end : Kept → ℤ) (kept : List Kept) (i : ℕ) (v : ℤ) (t : Bool) → 0 < (kept_at kept i).sites → (s : ℕ) × HasSiteBefore kept i s × (end (kept_at kept s) ≡ v) → (s : ℕ) × HasSiteBefore kept (i + 1) s × (end (kept_at kept s) ≡ cond t v (end (kept_at kept i)))
other end kept i v false e h = (i, (omega arith, e), refl)
other end kept i v true e h = (h.0, forth kept i h.0 h.1, h.2)

least_more : (end : Kept → ℤ) (kept : List Kept) (i : ℕ) (v : ℤ) → 0 < (kept_at kept i).sites → IsLowestEnd end kept i v → IsLowestEnd end kept (i + 1) (int_min v (end (kept_at kept i)))
least_more end kept i v e h = record {
  least = λ s w. ⊎_elim (λ (same : s ≡ i). let t = ap (λ k. end (kept_at kept k)) same in omega (arith, ints, clamps)) (λ apart. let t = h.least s (let z = w.0 in omega arith, w.1) in omega (arith, ints, clamps)) (cases_eq s i);
  there = either end kept i v (int_lt (end (kept_at kept i)) v) e h.there;
}

greatest_more : (end : Kept → ℤ) (kept : List Kept) (i : ℕ) (v : ℤ) → 0 < (kept_at kept i).sites → IsHighestEnd end kept i v → IsHighestEnd end kept (i + 1) (int_max v (end (kept_at kept i)))
greatest_more end kept i v e h = record {
  greatest = λ s w. ⊎_elim (λ (same : s ≡ i). let t = ap (λ k. end (kept_at kept k)) same in omega (arith, ints, clamps)) (λ apart. let t = h.greatest s (let z = w.0 in omega arith, w.1) in omega (arith, ints, clamps)) (cases_eq s i);
  there = other end kept i v (int_lt (end (kept_at kept i)) v) e h.there;
}

core_same : (height : ℤ) (kept : List Kept) (i : ℕ) (core : Option Core) → (kept_at kept i).sites ≡ 0 → IsCoreUpTo height kept i core → IsCoreUpTo height kept (i + 1) core
core_same height kept i None e h = λ s w. h s (back kept i e s w)
core_same height kept i (Some core) e h = record {
  left = least_same (λ (s : Kept). s.left) kept i core.xlo e h.left;
  right = greatest_same (λ (s : Kept). s.right) kept i core.xhi e h.right;
  lower = least_same (λ (s : Kept). s.lower) kept i core.ylo e h.lower;
  upper = greatest_same (λ (s : Kept). s.lower +ℤ height) kept i core.yhi e h.upper;
}

core_more : (height : ℤ) (kept : List Kept) (i : ℕ) (core : Option Core) → 0 < (kept_at kept i).sites → IsCoreUpTo height kept i core → IsCoreOf height kept (i + 1) (core_with height (kept_at kept i) core)
core_more height kept i None e h = record {
  left = least_first (λ (s : Kept). s.left) kept i e h;
  right = greatest_first (λ (s : Kept). s.right) kept i e h;
  lower = least_first (λ (s : Kept). s.lower) kept i e h;
  upper = greatest_first (λ (s : Kept). s.lower +ℤ height) kept i e h;
}
core_more height kept i (Some core) e h = record {
  left = least_more (λ (s : Kept). s.left) kept i core.xlo e h.left;
  right = greatest_more (λ (s : Kept). s.right) kept i core.xhi e h.right;
  lower = least_more (λ (s : Kept). s.lower) kept i core.ylo e h.lower;
  upper = greatest_more (λ (s : Kept). s.lower +ℤ height) kept i core.yhi e h.upper;
}

-- after one more subrow
pub widened_more : (height : ℤ) (kept : List Kept) (i : ℕ) (s : Kept) (core new : Option Core) → kept_at kept i ≡ s → (s.sites ≡ 0 → new ≡ core) → (0 < s.sites → new ≡ Some (core_with height s core)) → IsCoreUpTo height kept i core → IsCoreUpTo height kept (i + 1) new
widened_more height kept i s core new here none some h =
    let sites : (kept_at kept i).sites ≡ s.sites = ap (λ (k : Kept). k.sites) here in
    let P : Option Core → Type 0 = λ c. IsCoreUpTo height kept (i + 1) c in
    ⊎_elim
    (λ (e : s.sites ≡ 0). subst P (sym (none e)) (core_same height kept i core (sites ∙ e) h))
    (λ apart. let e : 0 < s.sites = omega arith in
    let Q : Kept → Type 0 = λ k. IsCoreOf height kept (i + 1) (core_with height k core) in
    subst P (sym (some e)) (subst Q here (core_more height kept i core (let t = sites in omega arith) h)))
    (cases_eq s.sites 0)

-- at the end
pub core_whole : (height : ℤ) (kept : List Kept) (i : ℕ) (found : Option Core) (core : Core) → i ≡ length kept → found ≡ Some core → IsCoreUpTo height kept i found → IsCoreOf height kept (length kept) core
core_whole height kept i found core e f h =
    let P : Option Core → Type 0 = λ c. IsCoreUpTo height kept i c in
    let Q : ℕ → Type 0 = λ n. IsCoreOf height kept n core in
    subst Q e (subst P f h)

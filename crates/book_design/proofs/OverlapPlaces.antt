-- The order of places, by the band and then by the left edge.
use Rattle.std.proofs.Common.{◌≡◌, ℕ, ◌<◌, ℤ, ◌≤ℤ◌, ◌<ℤ◌, true, false, arith, refl, sym, subst, List, [], ◌∷◌, ◌++◌, Some, None, Option}
use Rattle.std.proofs.lemmas.Bool.Decides.{nat_tests}
use Rattle.std.proofs.lemmas.Int.{ints}
use Rattle.std.specs.declared.cmp.Ordering.TheVariants.{Less}
use Rattle.std.specs.Ordering.{is_eq, is_lt}
use Rattle.std.specs.BTreeMap.{BTreeMap, get}
use Rattle.std.specs.BTreeMap.Range.{IsRangeOf, IsEntryInRange}
use Rattle.std.specs.declared.ops.Bound.TheVariants.{Excluded, Unbounded}
use Rattle.std.specs.Option.{IsSome}
use Rattle.book_design.specs.declared.strips.Strip.{Strip as Kept}
use Rattle.book_design.specs.Forms.Overlap.{Place, place_cmp, Has, StandAtLeftEdges, IsLastBefore, HasNoneBefore}

pub lt_left : (p q : Place) → p.0 ≡ q.0 → p.1 <ℤ q.1 → place_cmp p q ≡ Less
lt_left p q e h = grind (arith, nat_tests, ints)

pub same_place : (p q : Place) → is_eq (place_cmp p q) ≡ true → (p.0 ≡ q.0) × (p.1 ≡ q.1)
same_place p q h = grind (arith, nat_tests, ints)

pub same_at : (p : Place) → is_eq (place_cmp p p) ≡ true
same_at p = grind (arith, nat_tests, ints)

below : (p : Place) (number : ℕ) (left : ℤ) → is_lt (place_cmp p (number, left)) ≡ false → p.0 ≡ number → left ≤ℤ p.1
below p number left h e = grind (arith, nat_tests, ints)

not_below : (p : Place) (number : ℕ) (left : ℤ) → is_lt (place_cmp p (number, left)) ≡ false → p.0 < number → ⊥
not_below p number left h l = grind (arith, nat_tests, ints)

under : (p : Place) (number : ℕ) (end : ℤ) → place_cmp p (number, end) ≡ Less → (p.0 ≡ number → ⊥) → p.0 < number
under p number end h ne = grind (arith, nat_tests, ints)

before_end : (p : Place) (number : ℕ) (end : ℤ) → place_cmp p (number, end) ≡ Less → p.0 ≡ number → p.1 <ℤ end
before_end p number end h e = grind (arith, nat_tests, ints)

some_is : {A : Type 0} (o : Option A) (x : A) → o ≡ Some x → IsSome o
some_is o x e = let P : Option _ → Type 0 = λ o. IsSome o in subst P (sym e) refl

at_place : (kept : BTreeMap Place Kept) (p : Place) (number : ℕ) (left : ℤ) (s : Kept) → Has kept p s → p.0 ≡ number → p.1 ≡ left → Has kept (number, left) s
at_place kept p number left s h e f =
    let P : ℕ → Type 0 = λ n. Has kept (n, left) s in
    let Q : ℤ → Type 0 = λ z. Has kept (p.0, z) s in
    subst P e (subst Q f h)

pub none_in_empty : (kept : BTreeMap Place Kept) (number : ℕ) (end : ℤ) (r : List (Place × Kept)) → r ≡ []
    → IsRangeOf place_cmp Unbounded (Excluded (number, end)) kept r → HasNoneBefore kept number end
none_in_empty kept number end r e in_range left t before has =
    let absent : get place_cmp kept (number, left) ≡ None = in_range.5 e (number, left) (tt, lt_left (number, left) (number, end) refl before) in
    cc

pub last_in_range : (kept : BTreeMap Place Kept) (number : ℕ) (end : ℤ) (r rest : List (Place × Kept)) (p : Place) (s : Kept)
    → r ≡ rest ++ (p, s) ∷ [] → IsRangeOf place_cmp Unbounded (Excluded (number, end)) kept r → StandAtLeftEdges kept → p.0 ≡ number
    → IsLastBefore kept number end s
last_in_range kept number end r rest p s e in_range edges same =
    let entry : IsEntryInRange place_cmp Unbounded (Excluded (number, end)) kept (p, s) = in_range.3 (p, s) rest e in
    let edge : p.1 ≡ s.left = edges p s entry.1 in
    let L : ℤ → Type 0 = λ z. z <ℤ end in
    record {
      there = at_place kept p number s.left s entry.1 same edge;
      before = subst L edge (before_end p number end entry.0.1 same);
      last = λ left t less has.
          let G : ℤ → Type 0 = λ z. left ≤ℤ z in
          subst G edge (below p number left (in_range.4 (p, s) rest e (number, left) (tt, lt_left (number, left) (number, end) refl less) (some_is _ t has)) same);
    }

pub none_in_range : (kept : BTreeMap Place Kept) (number : ℕ) (end : ℤ) (r rest : List (Place × Kept)) (p : Place) (s : Kept)
    → r ≡ rest ++ (p, s) ∷ [] → IsRangeOf place_cmp Unbounded (Excluded (number, end)) kept r → (p.0 ≡ number → ⊥)
    → HasNoneBefore kept number end
none_in_range kept number end r rest p s e in_range other left t before has =
    let entry : IsEntryInRange place_cmp Unbounded (Excluded (number, end)) kept (p, s) = in_range.3 (p, s) rest e in
    not_below p number left (in_range.4 (p, s) rest e (number, left) (tt, lt_left (number, left) (number, end) refl before) (some_is _ t has))
    (under p number end entry.0.1 other)

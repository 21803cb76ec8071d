-- The region of a point, where each point stands in exactly one.
use Rattle.std.proofs.Common.{◌≡◌, ℕ, zero, suc, ◌+◌, ◌<◌, Bool, true, false, not, cond, eqb, ◌||◌, List, [], ◌∷◌, ◌++◌, length, get_or, zero-add, refl, sym, ◌∙◌, ap, subst, arith}
use Rattle.std.specs.Prelude.{Contains}
use Rattle.std.specs.List.{IsDistinct, list_any, range_with_len}
use Rattle.std.proofs.lemmas.Bool.{eqb-true, ne_eqb, or_parts, or_from, or_right, or_left, false≢true}
use Rattle.std.proofs.lemmas.Cmp.{nat_eq_equiv}
use Rattle.std.proofs.lemmas.List.{get_or_default}
use Rattle.std.proofs.lemmas.List.Elements.{All-from_recursion}
use Rattle.std.proofs.lemmas.List.Folds.{list_any-append, list_any_none, list_any_at}
use Rattle.std.proofs.lemmas.List.FromFn.{length-range_with_len, get_or-range_with_len}
use Rattle.std.proofs.lemmas.List.Sorted.{list_any-IsPermutation}
use Rattle.std.proofs.lemmas.List.Sums.{passes_at_first}
use Rattle.std.proofs.lemmas.Map.Views.{list_any-from_Contains, Contains-from_any}
use Rattle.std.proofs.lemmas.Map.Keys.{IsDistinct-head, IsDistinct-tail, IsDistinct-IsPermutation, IsDistinct-from_apart}
use Rattle.area_cut.specs.declared.region.Region.{Region}
use Rattle.area_cut.specs.Regions.{all_points, ArePartition, HaveHomes, has_point, home_of, region_of, no_region}
use Rattle.area_cut.proofs.Partitions.{are_points}

distinct_right : (xs ys : List ℕ) → IsDistinct eqb (xs ++ ys) → IsDistinct eqb ys
distinct_right [] ys h = h
distinct_right (x ∷ xs) ys h = distinct_right xs ys (IsDistinct-tail eqb x (xs ++ ys) h)

-- what stands in the second list doesn't stand in the first
not_left : (xs ys : List ℕ) (p : ℕ) → IsDistinct eqb (xs ++ ys) → list_any (eqb p) ys ≡ true → list_any (eqb p) xs ≡ false
not_left [] ys p h there = refl
not_left (x ∷ xs) ys p h there = or_from (eqb p x) (list_any (eqb p) xs) (by_cases (eqb p x) refl) (not_left xs ys p (IsDistinct-tail eqb x (xs ++ ys) h) there) where
  none : list_any (eqb x) (xs ++ ys) ≡ false
  none = list_any_none (eqb x) (xs ++ ys) (All-from_recursion (λ (y : ℕ). eqb x y ≡ false) (xs ++ ys) (IsDistinct-head eqb x (xs ++ ys) h))

  by_cases : (b : Bool) → eqb p x ≡ b → eqb p x ≡ false
  by_cases false e = e
  by_cases true e =
      let same = eqb-true p x e in
      let right : list_any (eqb x) ys ≡ false = (or_parts (list_any (eqb x) xs) (list_any (eqb x) ys) (sym (list_any-append (eqb x) xs ys) ∙ none)).1 in
      let also : list_any (eqb p) ys ≡ false = ap (λ (q : ℕ). list_any (eqb q) ys) same ∙ right in
      absurd (false≢true (sym also ∙ there))

-- a region's points are among all points
among_all : (regions : List Region) (k : ℕ) (d : Region) (p : ℕ) → k < length regions → has_point p (get_or regions k d) ≡ true → list_any (eqb p) (all_points regions) ≡ true
among_all [] k d p inside has = absurd (omega arith)
among_all (region ∷ regions) zero d p inside has = list_any-append (eqb p) region.points (all_points regions) ∙ or_left (has_point p region) (list_any (eqb p) (all_points regions)) has
among_all (region ∷ regions) (suc k) d p inside has =
    list_any-append (eqb p) region.points (all_points regions) ∙ or_right (has_point p region) (list_any (eqb p) (all_points regions)) (among_all regions k d p (omega arith) has)

-- the first region, and the others
home_first : (region : Region) (regions : List Region) (p : ℕ) → has_point p region ≡ true → home_of (region ∷ regions) p ≡ 0
home_first region regions p has = ap (λ (b : Bool). cond (not b) (1 + home_of regions p) 0) has

home_later : (region : Region) (regions : List Region) (p : ℕ) → has_point p region ≡ false → home_of (region ∷ regions) p ≡ 1 + home_of regions p
home_later region regions p has = ap (λ (b : Bool). cond (not b) (1 + home_of regions p) 0) has

-- the one region that has the point
home_is : (regions : List Region) (k : ℕ) (d : Region) (p : ℕ) → IsDistinct eqb (all_points regions) → k < length regions → has_point p (get_or regions k d) ≡ true → home_of regions p ≡ k
home_is [] k d p h inside has = absurd (omega arith)
home_is (region ∷ regions) zero d p h inside has = home_first region regions p has
home_is (region ∷ regions) (suc k) d p h inside has =
    let there = among_all regions k d p (omega arith) has in
    let rest = home_is regions k d p (distinct_right region.points (all_points regions) h) (omega arith) has in
    let later = home_later region regions p (not_left region.points (all_points regions) p h there) in
    omega arith

-- a point among all points has a region
home_there : (regions : List Region) (p : ℕ) → list_any (eqb p) (all_points regions) ≡ true → home_of regions p < length regions
home_there [] p there = absurd (false≢true there)
home_there (region ∷ regions) p there = by_cases (home_there regions p) (has_point p region) refl where
  by_cases : (list_any (eqb p) (all_points regions) ≡ true → home_of regions p < length regions) → (b : Bool) → has_point p region ≡ b → home_of (region ∷ regions) p < length (region ∷ regions)
  by_cases rest true e = omega (arith, home_first region regions p e)
  by_cases rest false e =
      let any : (has_point p region || list_any (eqb p) (all_points regions)) ≡ true = sym (list_any-append (eqb p) region.points (all_points regions)) ∙ there in
      let right : list_any (eqb p) (all_points regions) ≡ true = sym (ap (λ (b : Bool). b || list_any (eqb p) (all_points regions)) e) ∙ any in
      omega (arith, home_later region regions p e, rest right)

range_distinct : (n : ℕ) → IsDistinct eqb (range_with_len 0 n)
range_distinct n = IsDistinct-from_apart eqb (range_with_len 0 n) (λ i j d less inside.
    let many = length-range_with_len 0 n in
    let first = get_or-range_with_len 0 n i d (omega arith) in
    let second = get_or-range_with_len 0 n j d (omega arith) in
    ne_eqb (get_or (range_with_len 0 n) i d) (get_or (range_with_len 0 n) j d) (λ e. omega arith))

all_distinct : (n : ℕ) (regions : List Region) → ArePartition n regions → IsDistinct eqb (all_points regions)
all_distinct n regions partition = IsDistinct-IsPermutation eqb nat_eq_equiv.symm (range_with_len 0 n) (all_points regions) partition (range_distinct n)

has_home : (n : ℕ) (regions : List Region) (p : ℕ) → ArePartition n regions → p < n → home_of regions p < length regions
has_home n regions p partition inside =
    let many = length-range_with_len 0 n in
    let at = get_or-range_with_len 0 n p 0 inside in
    let here : eqb p (get_or (range_with_len 0 n) p 0) ≡ true = ap (eqb p) (at ∙ zero-add p) ∙ nat_eq_equiv.refl p in
    home_there regions p (sym (list_any-IsPermutation (eqb p) (range_with_len 0 n) (all_points regions) partition) ∙ list_any_at (eqb p) (range_with_len 0 n) p 0 (omega arith) here)

has_it : (regions : List Region) (p k : ℕ) → Contains (get_or regions k no_region).points p → has_point p (get_or regions k no_region) ≡ true
has_it regions p k among = list_any-from_Contains nat_eq_equiv p (get_or regions k no_region).points among

pub homes : (n : ℕ) (regions : List Region) → ArePartition n regions → HaveHomes n regions
homes n regions partition = record {
  there = λ p inside. has_home n regions p partition inside;
  has = λ p inside. Contains-from_any eqb-true p (region_of regions p).points (passes_at_first (has_point p) regions no_region (has_home n regions p partition inside));
  only = λ p k inside among. home_is regions k no_region p (all_distinct n regions partition) inside (has_it regions p k among);
  bounded = λ p k inside among. let all = are_points n regions k no_region partition inside in
      subst (λ (q : ℕ). q < n) (get_or_default (get_or regions k no_region).points among.0 0 p among.1 ∙ among.2) (all among.0 0 among.1);
}

-- The first subrows of a list, of which no two share area, as they are kept.
use Rattle.std.proofs.Common.{◌≡◌, ◌≢◌, ℕ, ◌<◌, ◌≤◌, ◌+◌, ℤ, pos, ◌<ℤ◌, ◌≤ℤ◌, List, length, get_or, arith, sym, ap, subst, ◌∙◌, Some, refl, Bool, true, false, if◌then◌else◌, ◌⊎◌, inl, inr, below_more, [], ◌∷◌, suc, zero}
use Rattle.std.proofs.lemmas.List.{get_or-map, get_or_default, length-map}
use Rattle.std.proofs.lemmas.Int.{ints}
use Rattle.std.specs.Prelude.{Option}
use Rattle.std.specs.List.{AllByRecursion}
use Rattle.std.specs.BTreeMap.{BTreeMap, get}
use Rattle.std.specs.Ordering.{is_eq}
use Rattle.book_design.specs.declared.strips.Strip.{Strip as Kept}
use Rattle.book_design.specs.Records.{Strip, strip_in}
use Rattle.book_design.specs.Faults.{ShareArea, IsOverlapping, IsFirst}
use Rattle.book_design.specs.Forms.Strips.{strip_value, strip_values, IsStripInRange}
use Rattle.book_design.specs.Forms.Overlap.{Place, band, place_of, place_cmp, Has, IsApart, Meet, MeetsOne, MeetsNone, HasAlso}
use Rattle.book_design.proofs.OverlapPlaces.{same_place, same_at}
use Rattle.book_design.proofs.OverlapBands.{less_in_band}

abbrev pub blank : Kept
blank = record { row = 0; left = pos 0; right = pos 0; lower = pos 0; sites = 0 }

-- the subrow is the one with the number
pub record IsAt (all : List Kept) (i : ℕ) (s : Kept) : Type 0 where
  pub there : i < length all
  pub is : get_or all i blank ≡ s

-- the map has those of the first so many subrows that have sites, and no two of them share area
pub record IsSeen (height : ℤ) (all : List Kept) (n : ℕ) (kept : BTreeMap Place Kept) : Type 0 where
  pub apart : IsApart height kept
  pub complete : (j : ℕ) → j < n → (s : Kept) → IsAt all j s → s.left <ℤ s.right → Has kept (place_of height s) s
  pub source : (place : Place) (s : Kept) → Has kept place s → (j : ℕ) × (j < n) × IsAt all j s
  pub none : (j : ℕ) → j < n → IsOverlapping (strip_values height all) j → ⊥

pub at : (all : List Kept) (i : ℕ) (s : Kept) → i < length all → s ≡ get_or all i s → IsAt all i s
at all i s there e = record { there = there; is = get_or_default all i blank s there ∙ sym e }

value_at : (height : ℤ) (all : List Kept) (i : ℕ) (s : Kept) → IsAt all i s → strip_in (strip_values height all) i ≡ strip_value height s
value_at height all i s a =
    let there : i < length all = a.there in
    get_or-map (strip_value height) all i blank _ there ∙ ap (strip_value height) a.is

pub some_at : (all : List Kept) (i : ℕ) → i < length all → IsAt all i (get_or all i blank)
some_at all i there = record { there = there; is = refl }

-- a subrow that shares area with a kept one is the first that overlaps an earlier one
pub first_at : (height : ℤ) (all : List Kept) (n : ℕ) (kept : BTreeMap Place Kept) (s : Kept) → IsSeen height all n kept → IsAt all n s
    → MeetsOne height kept s → IsFirst (IsOverlapping (strip_values height all)) n
first_at height all n kept s seen here meets =
    let from : (j : ℕ) × (j < n) × IsAt all j meets.other = seen.source meets.place meets.other meets.there in
    let P : Strip → Type 0 = λ a. ShareArea a (strip_in (strip_values height all) n) in
    let Q : Strip → Type 0 = λ b. ShareArea (strip_value height meets.other) b in
    record {
      here = record {
        there = simp length-map here.there;
        earlier = from.0;
        before = from.1;
        shared = subst P (sym (value_at height all from.0 meets.other from.2)) (subst Q (sym (value_at height all n s here)) meets.shared);
      };
      not_before = seen.none;
    }

-- what an overlap says of the subrows
overlap_of : (height : ℤ) (all : List Kept) (n : ℕ) (s : Kept) → IsAt all n s → (o : IsOverlapping (strip_values height all) n)
    → (o.earlier < n) × IsAt all o.earlier (get_or all o.earlier blank) × Meet height (get_or all o.earlier blank) s
overlap_of height all n s here o =
    let within : n < length all = here.there in
    let before : o.earlier < n = o.before in
    let earlier : IsAt all o.earlier (get_or all o.earlier blank) = some_at all o.earlier (omega arith) in
    let P : Strip → Type 0 = λ a. ShareArea a (strip_value height s) in
    let Q : Strip → Type 0 = λ b. ShareArea (strip_in (strip_values height all) o.earlier) b in
    (before, earlier, subst P (value_at height all o.earlier (get_or all o.earlier blank) earlier) (subst Q (value_at height all n s here) o.shared))

pub no_overlap : (height : ℤ) (all : List Kept) (n : ℕ) (kept : BTreeMap Place Kept) (s : Kept) → IsSeen height all n kept → IsAt all n s
    → MeetsNone height kept s → IsOverlapping (strip_values height all) n → ⊥
no_overlap height all n kept s seen here none o =
    let found = overlap_of height all n s here o in
    none (place_of height (get_or all o.earlier blank)) (get_or all o.earlier blank)
    (seen.complete o.earlier found.0 (get_or all o.earlier blank) found.1 found.2.a_wide) found.2

pub no_area : (height : ℤ) (all : List Kept) (n : ℕ) (s : Kept) → IsAt all n s → s.right ≤ℤ s.left → IsOverlapping (strip_values height all) n → ⊥
no_area height all n s here empty o =
    let wide : s.left <ℤ s.right = (overlap_of height all n s here o).2.b_wide in
    absurd (omega (arith, ints))

pub in_range : (all : List Kept) (i : ℕ) (s : Kept) → AllByRecursion IsStripInRange all → IsAt all i s → IsStripInRange s
in_range all i s ranges a = let P : Kept → Type 0 = λ t. IsStripInRange t in subst P a.is (each all i ranges a.there) where
  each : (all : List Kept) (i : ℕ) → AllByRecursion IsStripInRange all → i < length all → IsStripInRange (get_or all i blank)
  each [] i h l = absurd (omega arith)
  each (x ∷ xs) zero h l = h.0
  each (x ∷ xs) (suc i) h l = each xs i h.1 (omega arith)

meet_back : (height : ℤ) (a b : Kept) → Meet height a b → Meet height b a
meet_back height a b m = record {
  a_wide = m.b_wide;
  b_wide = m.a_wide;
  a_high = m.b_high;
  b_high = m.a_high;
  left_right = m.right_left;
  right_left = m.left_right;
  lower_upper = m.upper_lower;
  upper_lower = m.lower_upper;
}

-- two with sites at one place share area
meet_at : (height : ℤ) (s t : Kept) → pos 0 <ℤ height → IsStripInRange s → IsStripInRange t → s.left <ℤ s.right → t.left <ℤ t.right
    → place_of height s ≡ place_of height t → Meet height s t
meet_at height s t positive range_s range_t wide_s wide_t same =
    let one_band : band height s.lower ≡ band height t.lower = ap (λ p. p.0) same in
    let one_left : s.left ≡ t.left = ap (λ p. p.1) same in
    record {
      a_wide = wide_s;
      b_wide = wide_t;
      a_high = omega (arith, ints);
      b_high = omega (arith, ints);
      left_right = omega (arith, ints);
      right_left = omega (arith, ints);
      lower_upper = less_in_band s.lower t.lower height positive range_s.lower_low range_t.lower_low one_band;
      upper_lower = less_in_band t.lower s.lower height positive range_t.lower_low range_s.lower_low (sym one_band);
    }

pairs : (p q : Place) → p.0 ≡ q.0 → p.1 ≡ q.1 → p ≡ q
pairs p q e f = ap (λ n. (n, p.1)) e ∙ ap (λ z. (q.0, z)) f

chosen : (b : Bool) (o : Option Kept) (s t : Kept) → (if b then Some s else o) ≡ Some t → ((b ≡ true) × (s ≡ t)) ⊎ (o ≡ Some t)
chosen true o s t e = inl (refl, cc)
chosen false o s t e = inr e

module _ (height : ℤ) (kept more : BTreeMap Place Kept) (s : Kept) (also : HasAlso height kept more s) where
  cases : (Q : Place → Kept → Type 0) → Q (place_of height s) s → ((p : Place) (t : Kept) → Has kept p t → Q p t) → (p : Place) (t : Kept) → Has more p t → Q p t
  cases Q new old p t has =
      elim (chosen (is_eq (place_cmp (place_of height s) p)) (get place_cmp kept p) s t (sym (also p) ∙ has)) [
        | inl c ↦
            let same = same_place (place_of height s) p c.0 in
            let P : Place → Type 0 = λ q. Q q s in
            let R : Kept → Type 0 = λ u. Q p u in
            subst R c.1 (subst P (pairs (place_of height s) p same.0 same.1) new)
        | inr h ↦ old p t h
      ]

  there : Has more (place_of height s) s
  there =
      let P : Bool → Type 0 = λ b. (if b then Some s else get place_cmp kept (place_of height s)) ≡ Some s in
      also (place_of height s) ∙ subst P (sym (same_at (place_of height s))) refl

  stays : pos 0 <ℤ height → IsApart height kept → IsStripInRange s → s.left <ℤ s.right → MeetsNone height kept s → (p : Place) (t : Kept) → Has kept p t → Has more p t
  stays positive apart range wide none p t has = also p ∙ other (is_eq (place_cmp (place_of height s) p)) refl where
    other : (b : Bool) → is_eq (place_cmp (place_of height s) p) ≡ b → (if b then Some s else get place_cmp kept p) ≡ Some t
    other true e =
        let same = same_place (place_of height s) p e in
        let one : place_of height t ≡ place_of height s = sym (apart.placed p t has) ∙ sym (pairs (place_of height s) p same.0 same.1) in
        absurd (none p t has (meet_at height t s positive (apart.ranges p t has) range (apart.wide p t has) wide one))
    other false e = has

  apart_more : IsApart height kept → IsStripInRange s → s.left <ℤ s.right → MeetsNone height kept s → IsApart height more
  apart_more apart range wide none = record {
    placed = cases (λ p t. p ≡ place_of height t) refl apart.placed;
    wide = cases (λ p t. t.left <ℤ t.right) wide apart.wide;
    ranges = cases (λ p t. IsStripInRange t) range apart.ranges;
    apart = λ p q a b has_a has_b. cases (λ p a. p ≢ q → Meet height a b → ⊥)
        (cases (λ q b. place_of height s ≢ q → Meet height s b → ⊥) (λ ne m. ne refl) (λ q b has ne m. none q b has (meet_back height s b m)) q b has_b)
        (λ p a has. cases (λ q b. p ≢ q → Meet height a b → ⊥) (λ ne m. none p a has m) (λ q b has_old. apart.apart p q a b has has_old) q b has_b)
        p a has_a;
  }

pub seen_more : (height : ℤ) (all : List Kept) (n : ℕ) (kept more : BTreeMap Place Kept) (s : Kept) → pos 0 <ℤ height → IsSeen height all n kept → IsAt all n s
    → IsStripInRange s → s.left <ℤ s.right → MeetsNone height kept s → HasAlso height kept more s → IsSeen height all (n + 1) more
seen_more height all n kept more s positive seen here range wide none also = record {
  apart = apart_more height kept more s also seen.apart range wide none;
  complete = below_more _ _
      (λ j less t at_j wide_t. stays height kept more s also positive seen.apart range wide none (place_of height t) t (seen.complete j less t at_j wide_t))
      (λ t at_n wide_t. let P : Kept → Type 0 = λ u. Has more (place_of height u) u in subst P (sym here.is ∙ at_n.is) (there height kept more s also));
  source = cases height kept more s also (λ p t. (j : ℕ) × (j < n + 1) × IsAt all j t)
      (n, omega arith, here)
      (λ p t has. let old = seen.source p t has in (old.0, omega (arith, old.1), old.2));
  none = below_more _ _ seen.none (no_overlap height all n kept s seen here none);
}

pub seen_past : (height : ℤ) (all : List Kept) (n : ℕ) (kept : BTreeMap Place Kept) (s : Kept) → IsSeen height all n kept → IsAt all n s → s.right ≤ℤ s.left
    → IsSeen height all (n + 1) kept
seen_past height all n kept s seen here empty = record {
  apart = seen.apart;
  complete = below_more _ _ seen.complete
      (λ t at_n wide. let same : s ≡ t = sym here.is ∙ at_n.is in let P : Kept → Type 0 = λ u. u.right ≤ℤ u.left in
      let narrow : t.right ≤ℤ t.left = subst P same empty in absurd (omega (arith, ints)));
  source = λ p t has. let old = seen.source p t has in (old.0, omega (arith, old.1), old.2);
  none = below_more _ _ seen.none (no_area height all n s here empty);
}

pub none_at_end : (height : ℤ) (all : List Kept) (n : ℕ) (kept : BTreeMap Place Kept) → IsSeen height all n kept → length all ≤ n
    → (s : ℕ) → IsOverlapping (strip_values height all) s → ⊥
none_at_end height all n kept seen end s o =
    let there : s < length all = simp length-map at o.there in
    seen.none s (omega arith) o

-- The segments of a design are clear, and no two share area.
use Rattle.std.proofs.Common.{◌≡◌, ◌⊎◌, ℕ, zero, suc, ◌+◌, ◌-◌, ◌<◌, ◌≤◌, Bool, true, false, eqb, List, [], ◌∷◌, length, get_or, refl, sym, ap, ◌∙◌, subst, inl, inr, arith, ℤ, pos, negsuc, ◌+ℤ◌, ◌*ℤ◌, ◌≤ℤ◌}
use Rattle.std.specs.Prelude.{not, ◌||◌}
use Rattle.std.specs.Int.{int_max, int_min}
use Rattle.std.specs.List.{filter, flat_map, list_any, range_with_len}
use Rattle.std.proofs.lemmas.Int.{ints, clamps, by_lt_z}
use Rattle.std.proofs.lemmas.Bool.{cases_lt, and_parts}
use Rattle.std.proofs.lemmas.Bool.Decides.{nat_tests}
use Rattle.std.proofs.lemmas.List.{get_or-map, length-map, length-append, get_or_append_left, get_or-append_right}
use Rattle.std.proofs.lemmas.List.Elements.{filter_passes, All-filter}
use Rattle.std.proofs.lemmas.List.Kept.{AllPairs-filter}
use Rattle.std.proofs.lemmas.List.Folds.{list_any_at}
use Rattle.std.proofs.lemmas.List.FromFn.{length-range_with_len, get_or-range_with_len}
use Rattle.std.proofs.lemmas.List.Sums.{prefix_len-le-length, prefix_len_passes, prefix_len_stops}
use Rattle.book_design.specs.declared.parts.Subrow.{Subrow}
use Rattle.book_design.specs.Values.{NodeValue, DesignValue}
use Rattle.book_design.specs.Points.{node_value_at}
use Rattle.book_design.specs.WellFormed.{IsDesign, subrow_at}
use Rattle.row_space.specs.declared.parts.Segment.{Segment}
use Rattle.row_space.specs.Values.{segment_at}
use Rattle.row_space.specs.Rectangles.{Rectangle, share_area, node_rectangle, sites_rectangle, segment_rectangle, forbids_overlap, blocks}
use Rattle.row_space.specs.Runs.{is_free, begins, run_len, segment_from, segments_in, segments_of}
use Rattle.row_space.specs.Clear.{IsClear, AreClear}
use Rattle.row_space.proofs.Spans.{Narrower, narrower}
use Rattle.row_space.proofs.Meeting.{Meet, shares, meet_of, of_meet}

unnegated : (b : Bool) → not b ≡ true → b ≡ false
unnegated true h = sym h
unnegated false h = refl

-- ---- one run

-- a run that begins at a site
pub record IsRun (free : ℕ → Bool) (n k : ℕ) : Type 0 where
  pub there : k < n
  pub begun : begins free k ≡ true

record Long (free : ℕ → Bool) (n k : ℕ) : Type 0 where
  some : 0 < run_len free n k
  within : k + run_len free n k ≤ n
  clear : (i : ℕ) → k ≤ i → i < k + run_len free n k → free i ≡ true
  stop : k + run_len free n k < n → free (k + run_len free n k) ≡ false

long : (free : ℕ → Bool) (n k : ℕ) → IsRun free n k → Long free n k
long free n k run = record {
  some = elim (cases_lt 0 (run_len free n k)) [
    | inl more ↦ more
    | inr none ↦
        let zero_len : run_len free n k ≡ 0 = omega arith in
        let stops = prefix_len_stops free (range_with_len k (n - k)) 0 (omega (arith, many, run.there)) in
        let first : get_or (range_with_len k (n - k)) (run_len free n k) 0 ≡ k = get_or-range_with_len k (n - k) (run_len free n k) 0 (omega (arith, run.there)) ∙ (omega arith) in
        absurd (clash (free k) (and_parts (free k) ((eqb k 0) || not (free (k - 1))) run.begun).0 (sym (ap free first) ∙ stops))
  ];
  within = omega (arith, most, many, run.there);
  clear = λ i low high.
      let at : get_or (range_with_len k (n - k)) (i - k) 0 ≡ i = get_or-range_with_len k (n - k) (i - k) 0 (omega (arith, most, many)) ∙ (omega arith) in
      sym (ap free at) ∙ prefix_len_passes free (range_with_len k (n - k)) (i - k) 0 (omega arith);
  stop = λ inner.
      let at : get_or (range_with_len k (n - k)) (run_len free n k) 0 ≡ k + run_len free n k = get_or-range_with_len k (n - k) (run_len free n k) 0 (omega arith) in
      sym (ap free at) ∙ prefix_len_stops free (range_with_len k (n - k)) 0 (omega (arith, many));
} where
  many : length (range_with_len k (n - k)) ≡ n - k
  many = length-range_with_len k (n - k)

  most : run_len free n k ≤ length (range_with_len k (n - k))
  most = prefix_len-le-length free (range_with_len k (n - k))

  clash : (b : Bool) → b ≡ true → b ≡ false → ⊥
  clash b t f = cc

-- the site before a run isn't free
before_run : (free : ℕ → Bool) (k : ℕ) → begins free k ≡ true → 0 < k → free (k - 1) ≡ false
before_run free k begun some =
    let test : eqb k 0 ≡ false = grind (arith, nat_tests) in
    let second = (and_parts (free k) ((eqb k 0) || not (free (k - 1))) begun).1 in
    unnegated (free (k - 1)) (sym (ap (λ (x : Bool). x || not (free (k - 1))) test) ∙ second)

-- a later run begins behind an earlier one's end
behind : (free : ℕ → Bool) (n k m : ℕ) → IsRun free n k → IsRun free n m → k < m → k + run_len free n k ≤ m
behind free n k m a b lt = elim (cases_lt m (k + run_len free n k)) [
  | inl inside ↦
      let before : free (m - 1) ≡ true = (long free n k a).clear (m - 1) (omega arith) (omega arith) in
      let test : eqb m 0 ≡ false = grind (arith, nat_tests) in
      let second = (and_parts (free m) ((eqb m 0) || not (free (m - 1))) b.begun).1 in
      let fails : ((eqb m 0) || not (free (m - 1))) ≡ false = ap (λ (x : Bool). x || not (free (m - 1))) test ∙ ap (λ (x : Bool). not x) before in
      absurd (clash _ second fails)
  | inr out ↦ out
] where
  clash : (b : Bool) → b ≡ true → b ≡ false → ⊥
  clash b t f = cc

-- the beginnings of a subrow
abbrev starts_of : (ℕ → Bool) → ℕ → List ℕ
starts_of free n = filter (begins free) (range_with_len 0 n)

start_is : (free : ℕ → Bool) (n j : ℕ) → j < length (starts_of free n) → IsRun free n (get_or (starts_of free n) j 0)
start_is free n j lt = record {
  there = All-filter (begins free) (λ k. k < n) (range_with_len 0 n) (λ i d there.
      let inside : i < n = omega (arith, there, length-range_with_len 0 n) in
      let at = get_or-range_with_len 0 n i d inside in omega (arith, at)) j 0 lt;
  begun = filter_passes (begins free) (range_with_len 0 n) j 0 lt;
}

starts_rise : (free : ℕ → Bool) (n i j : ℕ) → i < j → j < length (starts_of free n) → get_or (starts_of free n) i 0 < get_or (starts_of free n) j 0
starts_rise free n i j lt there = AllPairs-filter (λ x y. x < y) (begins free) (range_with_len 0 n) (λ a b d less inside.
    let n_is = length-range_with_len 0 n in
    let at_a = get_or-range_with_len 0 n a d (omega arith) in
    let at_b = get_or-range_with_len 0 n b d (omega arith) in omega (arith, at_a, at_b)) i j 0 lt there

-- ---- rectangles

no_by : (b : Bool) → (b ≡ true → b ≡ false) → b ≡ false
no_by true h = h refl
no_by false h = refl

plus : (p : ℤ) (a b : ℕ) → (pos (a + b) *ℤ p) ≡ pos a *ℤ p +ℤ pos b *ℤ p
plus (pos p) a b = omega (arith, ints)
plus (negsuc p) a b = omega (arith, ints)

once : (p : ℤ) → (pos 1 *ℤ p) ≡ p
once (pos p) = omega (arith, ints)
once (negsuc p) = omega (arith, ints)

-- a node that blocks none of some sites blocks none of their rectangle
whole_clear : (design : DesignValue) (subrow : Subrow) (node : NodeValue) (from n : ℕ) → IsDesign design → ((k : ℕ) → from ≤ k → k < from + n → blocks node (sites_rectangle design subrow k 1) ≡ false)
    → blocks node (sites_rectangle design subrow from n) ≡ false
whole_clear design subrow node from zero valid each = no_by (blocks node (sites_rectangle design subrow from 0)) (λ holds.
    let m = meet_of node (sites_rectangle design subrow from 0) holds in
    let same : (pos (from + 0) *ℤ design.pitch) ≡ pos from *ℤ design.pitch = ap (λ n. pos n *ℤ design.pitch) (omega arith) in
    absurd (omega (arith, ints, clamps, m.columns, same)))
whole_clear design subrow node from (suc n) valid each = by_rest (whole_clear design subrow node from n valid (λ k low high. each k low (omega arith))) where
  by_rest : blocks node (sites_rectangle design subrow from n) ≡ false → blocks node (sites_rectangle design subrow from (suc n)) ≡ false
  by_rest rest = no_by (blocks node (sites_rectangle design subrow from (suc n))) (λ holds.
      let m = meet_of node (sites_rectangle design subrow from (suc n)) holds in
      let forbids = (and_parts (forbids_overlap node) (share_area (node_rectangle node) (sites_rectangle design subrow from (suc n))) holds).0 in
      let end : (pos (from + suc n) *ℤ design.pitch) ≡ pos ((from + n) + 1) *ℤ design.pitch = ap (λ n. pos n *ℤ design.pitch) (omega arith) in
      let start = narrower design.pitch from (from + n) valid.pitch_sign (omega arith) in
      let last : blocks node (sites_rectangle design subrow (from + n) 1) ≡ false = each (from + n) (omega arith) (omega arith) in
      by_lt (node_rectangle node) (subrow.x +ℤ pos (from + n) *ℤ design.pitch) m forbids end start rest last) where
        by_lt : (a : Rectangle) (mid : ℤ) → Meet (node_rectangle node) (sites_rectangle design subrow from (suc n)) → forbids_overlap node ≡ true
            → (pos (from + suc n) *ℤ design.pitch) ≡ pos ((from + n) + 1) *ℤ design.pitch → Narrower design.pitch from (from + n)
            → blocks node (sites_rectangle design subrow from n) ≡ false → blocks node (sites_rectangle design subrow (from + n) 1) ≡ false
            → blocks node (sites_rectangle design subrow from (suc n)) ≡ false
        by_lt a mid m forbids end start rest last = by_lt_z (int_max node.x (subrow.x +ℤ pos from *ℤ design.pitch)) (int_min (node.x +ℤ node.width) (subrow.x +ℤ pos (from + n) *ℤ design.pitch))
            (λ left. absurd (clash _ (of_meet node (sites_rectangle design subrow from n) forbids (record { columns = left; rows = m.rows })) rest))
            (λ right. absurd (clash _ (of_meet node (sites_rectangle design subrow (from + n) 1) forbids (record { columns = omega (arith, ints, clamps, right, m.columns, end, start.most); rows = m.rows })) last)) where
              clash : (b : Bool) → b ≡ true → b ≡ false → ⊥
              clash b t f = cc

-- ---- where a segment stands

pub record Located {X A : Type 0} (f : X → List A) (xs : List X) (s : ℕ) (e : X) (d : A) : Type 0 where
  t : ℕ
  there : t < length xs
  j : ℕ
  inside : j < length (f (get_or xs t e))
  is : get_or (flat_map f xs) s d ≡ get_or (f (get_or xs t e)) j d

locate : {X A : Type 0} (f : X → List A) (xs : List X) (s : ℕ) (e : X) (d : A) → s < length (flat_map f xs) → Located f xs s e d
locate f [] s e d lt = absurd (omega arith)
locate f (x ∷ xs) s e d lt = by_place (cases_lt s (length (f x))) (λ more. locate f xs (s - length (f x)) e d (omega (arith, lt, more, length-append (f x) (flat_map f xs)))) where
  by_place : (s < length (f x)) ⊎ (length (f x) ≤ s) → (length (f x) ≤ s → Located f xs (s - length (f x)) e d) → Located f (x ∷ xs) s e d
  by_place (inl here) rest = record { t = 0; there = omega arith; j = s; inside = here; is = get_or_append_left (f x) (flat_map f xs) d s here }
  by_place (inr later) rest =
      let found = rest later in
      record { t = suc found.t; there = omega (arith, found.there); j = found.j; inside = found.inside; is = get_or-append_right (f x) (flat_map f xs) (length (f x)) s d refl later ∙ found.is }

-- two of them in order
record TwoLocated {X A : Type 0} (f : X → List A) (xs : List X) (r s : ℕ) (e : X) (d : A) : Type 0 where
  first : Located f xs r e d
  second : Located f xs s e d
  order : (first.t < second.t) ⊎ ((first.t ≡ second.t) × (first.j < second.j))

locate_two : {X A : Type 0} (f : X → List A) (xs : List X) (r s : ℕ) (e : X) (d : A) → r < s → s < length (flat_map f xs) → TwoLocated f xs r s e d
locate_two f [] r s e d less lt = absurd (omega arith)
locate_two f (x ∷ xs) r s e d less lt =
    by_place (cases_lt r (length (f x))) (cases_lt s (length (f x))) (λ more. locate f xs (s - length (f x)) e d (omega (arith, lt, more, length-append (f x) (flat_map f xs))))
    (λ more. locate_two f xs (r - length (f x)) (s - length (f x)) e d (omega arith) (omega (arith, lt, more, length-append (f x) (flat_map f xs)))) where
      here : (i : ℕ) → i < length (f x) → Located f (x ∷ xs) i e d
      here i lt = record { t = 0; there = omega arith; j = i; inside = lt; is = get_or_append_left (f x) (flat_map f xs) d i lt }

      on : (i : ℕ) → length (f x) ≤ i → Located f xs (i - length (f x)) e d → Located f (x ∷ xs) i e d
      on i more found = record { t = suc found.t; there = omega (arith, found.there); j = found.j; inside = found.inside; is = get_or-append_right (f x) (flat_map f xs) (length (f x)) i d refl more ∙ found.is }

      by_place : (r < length (f x)) ⊎ (length (f x) ≤ r) → (s < length (f x)) ⊎ (length (f x) ≤ s) → (length (f x) ≤ s → Located f xs (s - length (f x)) e d)
          → (length (f x) ≤ r → TwoLocated f xs (r - length (f x)) (s - length (f x)) e d) → TwoLocated f (x ∷ xs) r s e d
      by_place (inl a) (inl b) one two = record { first = here r a; second = here s b; order = inr (refl, less) }
      by_place (inl a) (inr b) one two = record { first = here r a; second = on s b (one b); order = inl (omega arith) }
      by_place (inr a) (inl b) one two = absurd (omega arith)
      by_place (inr a) (inr b) one two =
          let both = two a in
          record { first = on r a both.first; second = on s b both.second; order = elim both.order [ inl before ↦ inl (omega (arith, before)) | inr same ↦ inr (ap suc same.0, same.1) ] }

-- ---- a segment by its subrow and its first site

record IsAt (design : DesignValue) (segment : Segment) (t k : ℕ) : Type 0 where
  there : t < length design.subrows
  run : IsRun (is_free design (subrow_at design.subrows t)) (subrow_at design.subrows t).sites k
  is : segment ≡ segment_from design (subrow_at design.subrows t) k

abbrev none : Segment
none = segment_at [] 0

abbrev start_at : DesignValue → ℕ → ℕ → ℕ
start_at design t j = get_or (starts_of (is_free design (subrow_at design.subrows t)) (subrow_at design.subrows t).sites) j 0

at_start : (design : DesignValue) (s : ℕ) (found : Located (segments_in design) design.subrows s (subrow_at [] 0) none) → IsAt design (segment_at (segments_of design).segments s) found.t (start_at design found.t found.j)
at_start design s found =
    let subrow = subrow_at design.subrows found.t in
    let starts = starts_of (is_free design subrow) subrow.sites in
    let inside : found.j < length starts = omega (arith, found.inside, length-map starts (segment_from design subrow)) in
    record { there = found.there; run = start_is (is_free design subrow) subrow.sites found.j inside; is = found.is ∙ get_or-map (segment_from design subrow) starts found.j 0 none inside }

abbrev rectangle : ℤ → ℤ → ℤ → ℤ → Rectangle
rectangle left right lower upper = record { left = left; right = right; lower = lower; upper = upper }

same_rectangle : (design : DesignValue) (segment : Segment) (subrow : Subrow) (k n : ℕ) → segment.x ≡ subrow.x +ℤ pos k *ℤ design.pitch → (segment.x +ℤ pos segment.sites *ℤ design.pitch) ≡ subrow.x +ℤ pos (k + n) *ℤ design.pitch
    → segment.y ≡ subrow.y → segment_rectangle design segment ≡ sites_rectangle design subrow k n
same_rectangle design segment subrow k n left right lower =
    ap (λ l. rectangle l (segment.x +ℤ pos segment.sites *ℤ design.pitch) segment.y (segment.y +ℤ design.row_height)) left
    ∙ ap (λ r. rectangle (subrow.x +ℤ pos k *ℤ design.pitch) r segment.y (segment.y +ℤ design.row_height)) right
    ∙ ap (λ y. rectangle (subrow.x +ℤ pos k *ℤ design.pitch) (subrow.x +ℤ pos (k + n) *ℤ design.pitch) y (y +ℤ design.row_height)) lower

clear_at : (design : DesignValue) (segment : Segment) (t k : ℕ) → IsDesign design → IsAt design segment t k → IsClear design segment
clear_at design segment t k valid at =
    let subrow = subrow_at design.subrows t in
    let run = long (is_free design subrow) subrow.sites k at.run in
    let sites : segment.sites ≡ run_len (is_free design subrow) subrow.sites k = ap (λ (s : Segment). s.sites) at.is in
    record {
      subrow = t;
      there = at.there;
      from = k;
      left = ap (λ (s : Segment). s.x) at.is;
      lower = ap (λ (s : Segment). s.y) at.is;
      within = omega (arith, sites, run.within);
      some = omega (arith, sites, run.some);
      free = λ i lt.
          let node = node_value_at design.nodes i in
          let whole = whole_clear design subrow node k (run_len (is_free design subrow) subrow.sites k) valid (λ site low high.
          let none_of : list_any (λ (n : NodeValue). blocks n (sites_rectangle design subrow site 1)) design.nodes ≡ false = unnegated _ (run.clear site low high) in
          no_by (blocks node (sites_rectangle design subrow site 1)) (λ holds. absurd (clash _ (list_any_at (λ (n : NodeValue). blocks n (sites_rectangle design subrow site 1)) design.nodes i (node_value_at [] 0) lt holds) none_of))) in
          let ends : (segment.x +ℤ pos segment.sites *ℤ design.pitch) ≡ subrow.x +ℤ pos (k + run_len (is_free design subrow) subrow.sites k) *ℤ design.pitch
          = ap (λ (s : Segment). s.x +ℤ pos s.sites *ℤ design.pitch) at.is ∙ sum_of subrow.x design.pitch k (run_len (is_free design subrow) subrow.sites k) in
          subst (λ (r : Rectangle). blocks node r ≡ false) (sym (same_rectangle design segment subrow k (run_len (is_free design subrow) subrow.sites k) (ap (λ (s : Segment). s.x) at.is) ends (ap (λ (s : Segment). s.y) at.is))) whole;
      before = before_run (is_free design subrow) k at.run.begun;
      behind = λ inner. ap (is_free design subrow) (ap (λ (n : ℕ). k + n) sites) ∙ run.stop (omega (arith, sites, inner));
    } where
      clash : (b : Bool) → b ≡ true → b ≡ false → ⊥
      clash b t f = cc

      sum_of : (x p : ℤ) (a b : ℕ) → ((x +ℤ pos a *ℤ p) +ℤ pos b *ℤ p) ≡ x +ℤ pos (a + b) *ℤ p
      sum_of x p a b = let s = plus p a b in omega (arith, ints, s)

-- ---- two segments

pub record Columns (design : DesignValue) (segment : Segment) (subrow : Subrow) : Type 0 where
  pub left : subrow.x ≤ℤ segment.x
  pub right : (segment.x +ℤ pos segment.sites *ℤ design.pitch) ≤ℤ (subrow.x +ℤ pos subrow.sites *ℤ design.pitch)
  pub some : 0 < subrow.sites

pub columns : (design : DesignValue) (segment : Segment) → IsDesign design → (clear : IsClear design segment) → Columns design segment (subrow_at design.subrows clear.subrow)
columns design segment valid clear =
    let start = narrower design.pitch clear.from clear.from valid.pitch_sign (omega arith) in
    let most = narrower design.pitch (clear.from + segment.sites) (subrow_at design.subrows clear.subrow).sites valid.pitch_sign clear.within in
    let sum = plus design.pitch clear.from segment.sites in
    record { left = omega (arith, ints, start.start, clear.left); right = omega (arith, ints, most.most, sum, clear.left); some = omega (arith, clear.some, clear.within) }

two_subrows : (design : DesignValue) (a b : Segment) → IsDesign design → (in_a : IsClear design a) → (in_b : IsClear design b) → in_a.subrow < in_b.subrow → share_area (segment_rectangle design a) (segment_rectangle design b) ≡ false
two_subrows design a b valid in_a in_b less = no_by (share_area (segment_rectangle design a) (segment_rectangle design b)) (λ holds.
    let m = shares (segment_rectangle design a) (segment_rectangle design b) holds in
    let ca = columns design a valid in_a in
    let cb = columns design b valid in_b in
    elim (valid.apart in_a.subrow in_b.subrow less in_b.there) [
      | inl empty ↦ absurd (omega (arith, empty, ca.some))
      | inr more ↦ elim more [
        | inl empty ↦ absurd (omega (arith, empty, cb.some))
        | inr more ↦ elim more [
          | inl left ↦ absurd (omega (arith, ints, clamps, m.columns, ca.right, cb.left, left))
          | inr more ↦ elim more [
            | inl right ↦ absurd (omega (arith, ints, clamps, m.columns, cb.right, ca.left, right))
            | inr more ↦ elim more [
              | inl under ↦ absurd (omega (arith, ints, clamps, m.rows, in_a.lower, in_b.lower, under))
              | inr over ↦ absurd (omega (arith, ints, clamps, m.rows, in_a.lower, in_b.lower, over))
            ]
          ]
        ]
      ]
    ])

one_subrow : (design : DesignValue) (a b : Segment) (t k m : ℕ) → IsDesign design → IsAt design a t k → IsAt design b t m → k < m → share_area (segment_rectangle design a) (segment_rectangle design b) ≡ false
one_subrow design a b t k m valid at_a at_b less = no_by (share_area (segment_rectangle design a) (segment_rectangle design b)) (λ holds.
    let meet = shares (segment_rectangle design a) (segment_rectangle design b) holds in
    let subrow = subrow_at design.subrows t in
    let len = run_len (is_free design subrow) subrow.sites k in
    let after = behind (is_free design subrow) subrow.sites k m at_a.run at_b.run less in
    let sum = plus design.pitch k len in
    let far = narrower design.pitch (k + len) m valid.pitch_sign after in
    let end : (a.x +ℤ pos a.sites *ℤ design.pitch) ≡ (subrow.x +ℤ pos k *ℤ design.pitch) +ℤ pos len *ℤ design.pitch = ap (λ (s : Segment). s.x +ℤ pos s.sites *ℤ design.pitch) at_a.is in
    let start : b.x ≡ subrow.x +ℤ pos m *ℤ design.pitch = ap (λ (s : Segment). s.x) at_b.is in
    absurd (omega (arith, ints, clamps, meet.columns, sum, far.most, end, start)))

pub clear_segments : (design : DesignValue) → IsDesign design → AreClear design
unfolding clear_at locate_two
clear_segments design valid = record {
  each = λ s lt. let found = locate (segments_in design) design.subrows s (subrow_at [] 0) none lt in clear_at design (segment_at (segments_of design).segments s) found.t (start_at design found.t found.j) valid (at_start design s found);
  apart = λ r s less lt.
      let two = locate_two (segments_in design) design.subrows r s (subrow_at [] 0) none less lt in
      let at_r = at_start design r two.first in
      let at_s = at_start design s two.second in
      elim two.order [
        | inl before ↦ two_subrows design (segment_at (segments_of design).segments r) (segment_at (segments_of design).segments s) valid
            (clear_at design (segment_at (segments_of design).segments r) two.first.t (start_at design two.first.t two.first.j) valid at_r)
            (clear_at design (segment_at (segments_of design).segments s) two.second.t (start_at design two.second.t two.second.j) valid at_s) before
        | inr same ↦
            let free = is_free design (subrow_at design.subrows two.second.t) in
            let starts = starts_of free (subrow_at design.subrows two.second.t).sites in
            let inside : two.second.j < length starts = omega (arith, two.second.inside, length-map starts (segment_from design (subrow_at design.subrows two.second.t))) in
            let rise = starts_rise free (subrow_at design.subrows two.second.t).sites two.first.j two.second.j same.1 inside in
            one_subrow design (segment_at (segments_of design).segments r) (segment_at (segments_of design).segments s) two.second.t (start_at design two.second.t two.first.j) (start_at design two.second.t two.second.j) valid
            (subst (λ t. IsAt design (segment_at (segments_of design).segments r) t (start_at design t two.first.j)) same.0 at_r) at_s rise
      ];
}

-- The marks of a node, tier by tier.
use Rattle.std.proofs.Common.{◌≡◌, ◌↔◌, ℕ, ◌+◌, ◌-◌, ◌<◌, ◌≤◌, min, Bool, true, false, not, cond, ltb, List, [], ◌∷◌, ◌++◌, length, refl, sym, ap, ◌∙◌, subst, inl, inr, arith, ◌⊎◌, ℤ, pos, negsuc, ◌+ℤ◌, ◌*ℤ◌, ◌≤ℤ◌, ◌<ℤ◌}
use Rattle.std.proofs.lemmas.Int.{ints, clamps}
use Rattle.std.proofs.lemmas.Bool.{cases_lt, cases_order, and_parts, and_from, not-true}
use Rattle.std.proofs.lemmas.Bool.Decides.{nat_tests}
use Rattle.std.proofs.lemmas.List.{append-nil, append_assoc, length-append, get_or_append_left, get_or-append_right, get_or_push, length_push, get_or-append-add, get_or_default}
use Rattle.std.specs.declared.cmp.Ordering.{Ordering}
use Rattle.std.specs.declared.cmp.Ordering.TheVariants.{Less, Equal}
use Rattle.std.specs.Ordering.{nat_cmp, ordering_then, is_lt}
use Rattle.std.specs.Cmp.{IsTotalOrder}
use Rattle.std.specs.List.Sorted.{IsPermutation, IsSorted}
use Rattle.std.proofs.lemmas.Cmp.{nat_cmp_total, on_total, then_total}
use Rattle.std.proofs.lemmas.List.Elements.{Contains-get_or}
use Rattle.std.proofs.lemmas.List.Sorted.{sorted_far, ranks_by, All-permutation, Contains-permutation}
use Rattle.book_design.specs.declared.parts.Subrow.{Subrow}
use Rattle.book_design.specs.Points.{node_value_at}
use Rattle.book_design.specs.Values.{NodeValue, DesignValue}
use Rattle.book_design.specs.WellFormed.{subrow_at, IsDesign}
use Rattle.row_space.specs.declared.marks.Mark.{Mark}
use Rattle.row_space.specs.declared.tiers.Tier.{Tier}
use Rattle.row_space.specs.Rectangles.{share_area, node_rectangle, forbids_overlap, blocks, sites_rectangle}
use Rattle.row_space.specs.Forms.Tiers.{tier_at, AreTiers, IsPassed}
use Rattle.row_space.specs.Forms.Marks.{mark_at, IsMark, HasMark, AreMarks, IsNoLater, AreSorted, IsMarkOf, AddsWhere, AddsMarks, AddsSubrow, MeetsRow, IsSolid, with_mark}
use Rattle.row_space.proofs.Spans.{narrower}
use Rattle.row_space.proofs.Meeting.{meet_of, of_meet}
use Rattle.row_space.proofs.Tiering.{no_further_y}

-- a mark behind
has_more : (marks more : List Mark) (t k : ℕ) → HasMark marks t k → HasMark (marks ++ more) t k
has_more marks more t k has =
    let at = get_or_append_left marks more (mark_at [] 0) has.at has.there in
    record {
      at = has.at;
      there = omega (arith, has.there, length-append marks more);
      subrow = ap (λ (m : Mark). m.subrow) at ∙ has.subrow;
      first = omega (arith, ap (λ (m : Mark). m.first) at, has.first);
      end = omega (arith, ap (λ (m : Mark). m.end) at, has.end);
    }

has_last : (marks : List Mark) (m : Mark) (k : ℕ) → m.first ≤ k → k < m.end → HasMark (marks ++ m ∷ []) m.subrow k
has_last marks m k low high =
    let at = get_or_push marks m (mark_at [] 0) (length marks) refl in
    record {
      at = length marks;
      there = omega (arith, length_push marks m);
      subrow = ap (λ (m : Mark). m.subrow) at;
      first = omega (arith, ap (λ (m : Mark). m.first) at);
      end = omega (arith, ap (λ (m : Mark). m.end) at);
    }

has_behind : (marks more : List Mark) (t k : ℕ) → HasMark more t k → HasMark (marks ++ more) t k
has_behind marks more t k has =
    let at : mark_at (marks ++ more) (length marks + has.at) ≡ mark_at more has.at = get_or-append-add marks more has.at (mark_at [] 0) in
    record {
      at = length marks + has.at;
      there = omega (arith, has.there, length-append marks more);
      subrow = ap (λ (m : Mark). m.subrow) at ∙ has.subrow;
      first = omega (arith, ap (λ (m : Mark). m.first) at, has.first);
      end = omega (arith, ap (λ (m : Mark). m.end) at, has.end);
    }

-- ---- a node, subrow by subrow

-- marks for some subrows, and then for others
pub adds_then : (design : DesignValue) (node : NodeValue) (P Q R : ℕ → Type 0) (old marks new : List Mark) → AddsWhere design node P old marks → AddsWhere design node Q marks new
    → ((number : ℕ) → R number → P number ⊎ Q number) → AddsWhere design node R old new
adds_then design node P Q R old marks new a b split = record {
  added = a.added ++ b.added;
  is = b.is ∙ ap (λ ms. ms ++ b.added) a.is ∙ append_assoc old a.added b.added;
  each = λ i lt. elim (cases_lt i (length a.added)) [
    | inl first ↦ subst (λ (m : Mark). IsMarkOf design node m) (sym (get_or_append_left a.added b.added (mark_at [] 0) i first)) (a.each i first)
    | inr later ↦ subst (λ (m : Mark). IsMarkOf design node m) (sym (get_or-append_right a.added b.added (length a.added) i (mark_at [] 0) refl later))
        (b.each (i - length a.added) (omega (arith, lt, length-append a.added b.added)))
  ];
  all = λ number site is_one inside blocked. elim (split number is_one) [
    | inl p ↦ has_more a.added b.added number site (a.all number site p inside blocked)
    | inr q ↦ has_behind a.added b.added number site (b.all number site q inside blocked)
  ];
}

-- the node takes sites of no other subrows
pub adds_same : (design : DesignValue) (node : NodeValue) (P R : ℕ → Type 0) (old new : List Mark) → AddsWhere design node P old new
    → ((number site : ℕ) → R number → site < (subrow_at design.subrows number).sites → blocks node (sites_rectangle design (subrow_at design.subrows number) site 1) ≡ true → P number)
    → AddsWhere design node R old new
adds_same design node P R old new a narrow = record {
  added = a.added;
  is = a.is;
  each = a.each;
  all = λ number site is_one inside blocked. a.all number site (narrow number site is_one inside blocked) inside blocked;
}

pub adds_none : (design : DesignValue) (node : NodeValue) (R : ℕ → Type 0) (old : List Mark)
    → ((number site : ℕ) → R number → site < (subrow_at design.subrows number).sites → blocks node (sites_rectangle design (subrow_at design.subrows number) site 1) ≡ true → ⊥)
    → AddsWhere design node R old old
adds_none design node R old none = record {
  added = [];
  is = sym (append-nil old);
  each = λ i lt. absurd (omega arith);
  all = λ number site is_one inside blocked. absurd (none number site is_one inside blocked);
}

solid_forbids : (node : NodeValue) → IsSolid node → forbids_overlap node ≡ true
solid_forbids node solid = and_from _ _ solid.fixed (ap not solid.forbids)

-- one subrow
pub adds_subrow : (design : DesignValue) (node : NodeValue) (marks new : List Mark) (t first to end : ℕ) → IsDesign design → IsSolid node → t < length design.subrows → MeetsRow design node t
    → ((k : ℕ) → (first ≤ k) ↔ (node.x <ℤ ((subrow_at design.subrows t).x +ℤ pos (k + 1) *ℤ design.pitch)))
    → ((k : ℕ) → (k < to) ↔ (((subrow_at design.subrows t).x +ℤ pos k *ℤ design.pitch) <ℤ (node.x +ℤ node.width)))
    → end ≡ min to (subrow_at design.subrows t).sites → new ≡ with_mark marks t first end
    → AddsSubrow design node t marks new
adds_subrow design node marks new t first to end valid solid there row before up_to ends is = by_test (ltb first end) refl where
  m : Mark
  m = record { subrow = t; first = first; end = end }

  subrow : Subrow
  subrow = subrow_at design.subrows t

  taken : (k : ℕ) → first ≤ k → k < end → blocks node (sites_rectangle design subrow k 1) ≡ true
  taken k low lt =
      let left = (before k).0 low in
      let right = (up_to k).0 (omega (arith, lt, ends)) in
      let width : (pos (k + 1) *ℤ design.pitch) ≡ pos k *ℤ design.pitch +ℤ design.pitch = plus design.pitch k in
      of_meet node (sites_rectangle design subrow k 1) (solid_forbids node solid) (record {
        columns = omega (arith, ints, clamps, left, right, solid.wide, width, valid.pitch_sign);
        rows = omega (arith, ints, clamps, row.below, row.above, solid.high, valid.height_sign);
      }) where
        plus : (p : ℤ) (k : ℕ) → (pos (k + 1) *ℤ p) ≡ pos k *ℤ p +ℤ p
        plus (pos p) k = omega (arith, ints)
        plus (negsuc p) k = omega (arith, ints)

  -- each site that the node takes is the mark's
  covered : (k : ℕ) → k < subrow.sites → blocks node (sites_rectangle design subrow k 1) ≡ true → (first ≤ k) × (k < end)
  covered k inside blocked =
      let meet = meet_of node (sites_rectangle design subrow k 1) blocked in
      let left : first ≤ k = (before k).1 (omega (arith, ints, clamps, meet.columns)) in
      let right : k < to = (up_to k).1 (omega (arith, ints, clamps, meet.columns)) in
      (left, omega (arith, ends))

  covered_at : (number k : ℕ) → number ≡ t → k < (subrow_at design.subrows number).sites → blocks node (sites_rectangle design (subrow_at design.subrows number) k 1) ≡ true → (first ≤ k) × (k < end)
  covered_at number k same inside blocked = covered k (subst (λ s. k < (subrow_at design.subrows s).sites) same inside) (subst (λ s. blocks node (sites_rectangle design (subrow_at design.subrows s) k 1) ≡ true) same blocked)

  one : first < end → (i : ℕ) → i < length (m ∷ []) → IsMarkOf design node (mark_at (m ∷ []) i)
  one some i lt = let here : 0 ≡ i = omega arith in
      subst (λ i. IsMarkOf design node (mark_at (m ∷ []) i)) here (record { there = there; some = some; within = omega (arith, ends); taken = taken })

  by_test : (b : Bool) → ltb first end ≡ b → AddsSubrow design node t marks new
  by_test true test = record {
    added = m ∷ [];
    is = is ∙ ap (λ (b : Bool). cond b (marks ++ m ∷ []) marks) test;
    each = one (grind (arith, nat_tests));
    all = λ number site same inside blocked.
        let both = covered_at number site same inside blocked in
        subst (λ n. HasMark (m ∷ []) n site) (sym same) (has_last [] m site both.0 both.1);
  }
  by_test false test = adds_empty (is ∙ ap (λ (b : Bool). cond b (marks ++ m ∷ []) marks) test) (grind (arith, nat_tests)) where
    adds_empty : new ≡ marks → end ≤ first → AddsSubrow design node t marks new
    adds_empty same none = subst (λ (ms : List Mark). AddsSubrow design node t marks ms) (sym same) (adds_none design node (λ number. number ≡ t) marks (λ number site is_one inside blocked.
        let both = covered_at number site is_one inside blocked in absurd (omega (arith, both.0, both.1))))

-- ---- tier after tier

-- the subrow has a tier before a place
pub record IsBefore (tiers : List Tier) (at number : ℕ) : Type 0 where
  pub tier : ℕ
  pub before : tier < at
  pub is : (tier_at tiers tier).subrow ≡ number

-- the marks of a node for the subrows of the tiers before a place, from which on no row lies below the node
pub record IsMarking (design : DesignValue) (node : NodeValue) (tiers : List Tier) (old marks : List Mark) (at : ℕ) : Type 0 where
  pub within : at ≤ length tiers
  pub above : (i : ℕ) → at ≤ i → i < length tiers → node.y <ℤ ((tier_at tiers i).y +ℤ design.row_height)
  pub adds : AddsWhere design node (IsBefore tiers at) old marks

-- the node takes no site of a tier's subrow
abbrev pub IsUntouched : DesignValue → NodeValue → Tier → Type 0
IsUntouched design node tier = (k : ℕ) → k < (subrow_at design.subrows tier.subrow).sites → blocks node (sites_rectangle design (subrow_at design.subrows tier.subrow) k 1) ≡ true → ⊥

untouched_at : (design : DesignValue) (node : NodeValue) (tier : Tier) (number k : ℕ) → IsUntouched design node tier → tier.subrow ≡ number → k < (subrow_at design.subrows number).sites
    → blocks node (sites_rectangle design (subrow_at design.subrows number) k 1) ≡ true → ⊥
untouched_at design node tier number k none is inside blocked = none k (subst (λ s. k < (subrow_at design.subrows s).sites) (sym is) inside) (subst (λ s. blocks node (sites_rectangle design (subrow_at design.subrows s) k 1) ≡ true) (sym is) blocked)

-- tiers are passed over
pub marking_on : (design : DesignValue) (node : NodeValue) (tiers : List Tier) (old marks : List Mark) (at next : ℕ) → IsMarking design node tiers old marks at → at ≤ next → next ≤ length tiers
    → ((i : ℕ) → at ≤ i → i < next → IsUntouched design node (tier_at tiers i)) → IsMarking design node tiers old marks next
marking_on design node tiers old marks at next m le within none = record {
  within = within;
  above = λ i from lt. m.above i (omega arith) lt;
  adds = adds_same design node (IsBefore tiers at) (IsBefore tiers next) old marks m.adds (λ number k is_one inside blocked. elim (cases_lt is_one.tier at) [
    | inl past ↦ record { tier = is_one.tier; before = past; is = is_one.is }
    | inr new_one ↦ absurd (untouched_at design node (tier_at tiers is_one.tier) number k (none is_one.tier new_one is_one.before) is_one.is inside blocked)
  ]);
}

-- the first ones lie below the node
pub marking_first : (design : DesignValue) (node : NodeValue) (tiers : List Tier) (old : List Mark) (at : ℕ) → AreTiers design tiers → at ≤ length tiers
    → ((i : ℕ) → i < at → ((tier_at tiers i).y +ℤ design.row_height) ≤ℤ node.y)
    → ((i : ℕ) → at ≤ i → i < length tiers → node.y <ℤ ((tier_at tiers i).y +ℤ design.row_height))
    → IsMarking design node tiers old old at
marking_first design node tiers old at are within below above = record {
  within = within;
  above = above;
  adds = adds_none design node (IsBefore tiers at) old (λ number k is_one inside blocked.
      untouched_at design node (tier_at tiers is_one.tier) number k (under is_one.tier is_one.before) is_one.is inside blocked);
} where
  under : (i : ℕ) → i < at → IsUntouched design node (tier_at tiers i)
  under i lt k inside blocked =
      let tier = are.each i (omega (arith, lt, within)) in
      let meet = meet_of node (sites_rectangle design (subrow_at design.subrows (tier_at tiers i).subrow) k 1) blocked in
      absurd (omega (arith, ints, clamps, meet.rows, below i lt, tier.at_y))

-- a tier's subrow is marked
pub marking_more : (design : DesignValue) (node : NodeValue) (tiers : List Tier) (old marks new : List Mark) (at : ℕ) → IsMarking design node tiers old marks at → at < length tiers
    → AddsSubrow design node (tier_at tiers at).subrow marks new → IsMarking design node tiers old new (at + 1)
marking_more design node tiers old marks new at m more adds = record {
  within = omega arith;
  above = λ i from lt. m.above i (omega arith) lt;
  adds = adds_then design node (IsBefore tiers at) (λ number. number ≡ (tier_at tiers at).subrow) (IsBefore tiers (at + 1)) old marks new m.adds adds (λ number is_one. elim (cases_lt is_one.tier at) [
    | inl past ↦ inl (record { tier = is_one.tier; before = past; is = is_one.is })
    | inr last ↦ let here : is_one.tier ≡ at = omega (arith, is_one.before) in inr (sym is_one.is ∙ ap (λ i. (tier_at tiers i).subrow) here)
  ]);
}

-- all tiers that end left of the node
pub marking_right_of : (design : DesignValue) (node : NodeValue) (tiers : List Tier) (old marks : List Mark) (at next : ℕ) → IsDesign design → AreTiers design tiers → IsMarking design node tiers old marks at → at ≤ next → next ≤ length tiers
    → ((i : ℕ) → i < next → IsPassed (tier_at tiers at).y node.x (tier_at tiers i)) → IsMarking design node tiers old marks next
marking_right_of design node tiers old marks at next valid are m le within passed = marking_on design node tiers old marks at next m le within left where
  left : (i : ℕ) → at ≤ i → i < next → IsUntouched design node (tier_at tiers i)
  left i from lt k inside blocked =
      let subrow = subrow_at design.subrows (tier_at tiers i).subrow in
      let tier = are.each i (omega (arith, lt, within)) in
      let order = no_further_y (tier_at tiers at) (tier_at tiers i) (are.order at i from (omega (arith, lt, within))) in
      let meet = meet_of node (sites_rectangle design subrow k 1) blocked in
      let most = narrower design.pitch (k + 1) subrow.sites valid.pitch_sign (omega arith) in
      elim (passed i lt) [
        | inl lower ↦ absurd (omega (arith, ints, lower, order))
        | inr same ↦ absurd (omega (arith, ints, clamps, meet.columns, same.1, tier.right, most.most))
      ]

-- all tiers of a row that begin right of the node
pub marking_above : (design : DesignValue) (node : NodeValue) (tiers : List Tier) (old marks : List Mark) (at next : ℕ) → IsDesign design → AreTiers design tiers → IsMarking design node tiers old marks at → at ≤ next → next ≤ length tiers
    → (node.x +ℤ node.width) ≤ℤ (tier_at tiers at).left → ((i : ℕ) → i < next → (tier_at tiers i).y ≤ℤ (tier_at tiers at).y) → IsMarking design node tiers old marks next
marking_above design node tiers old marks at next valid are m le within out row = marking_on design node tiers old marks at next m le within right where
  right : (i : ℕ) → at ≤ i → i < next → IsUntouched design node (tier_at tiers i)
  right i from lt k inside blocked =
      let subrow = subrow_at design.subrows (tier_at tiers i).subrow in
      let tier = are.each i (omega (arith, lt, within)) in
      let meet = meet_of node (sites_rectangle design subrow k 1) blocked in
      let start = narrower design.pitch k k valid.pitch_sign (omega arith) in
      elim (are.order at i from (omega (arith, lt, within))) [
        | inl higher ↦ absurd (omega (arith, ints, higher, row i lt))
        | inr same ↦ absurd (omega (arith, ints, clamps, meet.columns, same.1.0, tier.left, start.start, out))
      ]

-- all tiers
pub marking_all : (design : DesignValue) (node : NodeValue) (tiers : List Tier) (old marks : List Mark) (at : ℕ) → AreTiers design tiers → IsMarking design node tiers old marks at
    → (at < length tiers → (node.y +ℤ node.height) ≤ℤ (tier_at tiers at).y) → AddsMarks design node old marks
marking_all design node tiers old marks at are m above = adds_same design node (IsBefore tiers at) (λ number. number < length design.subrows) old marks m.adds (λ number k there inside blocked.
    let has = are.all number there (omega (arith, inside)) in
    elim (cases_lt has.at at) [
      | inl past ↦ record { tier = has.at; before = past; is = has.is }
      | inr late ↦
          let tier = are.each has.at has.there in
          let y = tier.at_y ∙ ap (λ s. (subrow_at design.subrows s).y) has.is in
          let order = no_further_y (tier_at tiers at) (tier_at tiers has.at) (are.order at has.at late has.there) in
          let meet = meet_of node (sites_rectangle design (subrow_at design.subrows number) k 1) blocked in
          absurd (omega (arith, ints, clamps, meet.rows, above (omega (arith, has.there)), order, y))
    ])

-- ---- node after node

pub marks_more : (design : DesignValue) (node : NodeValue) (marks new : List Mark) (i : ℕ) → AreMarks design i marks → i < length design.nodes → node ≡ node_value_at design.nodes i → AddsMarks design node marks new → AreMarks design (i + 1) new
marks_more design node marks new i are there is adds = record {
  each = λ j lt. elim (cases_lt j (length marks)) [
    | inl old ↦ subst (λ (m : Mark). IsMark design m) (sym (ap (λ ms. mark_at ms j) adds.is ∙ get_or_append_left marks adds.added (mark_at [] 0) j old)) (are.each j old)
    | inr fresh ↦
        let inside : j - length marks < length adds.added = omega (arith, lt, ap length adds.is, length-append marks adds.added) in
        let own = adds.each (j - length marks) inside in
        let mark : IsMark design (mark_at adds.added (j - length marks)) = record {
          there = own.there;
          some = own.some;
          within = own.within;
          node = i;
          node_there = there;
          taken = λ k low high. subst (λ (n : NodeValue). blocks n (sites_rectangle design (subrow_at design.subrows (mark_at adds.added (j - length marks)).subrow) k 1) ≡ true) is (own.taken k low high);
        } in
        subst (λ (m : Mark). IsMark design m) (sym (ap (λ ms. mark_at ms j) adds.is ∙ get_or-append_right marks adds.added (length marks) j (mark_at [] 0) refl fresh)) mark
  ];
  all = λ j t k lt row inside blocked. subst (λ (ms : List Mark). HasMark ms t k) (sym adds.is) (elim (cases_lt j i) [
    | inl old ↦ has_more marks adds.added t k (are.all j t k old row inside blocked)
    | inr last ↦
        let here : j ≡ i = omega arith in
        has_behind marks adds.added t k (adds.all t k row inside (subst (λ (n : NodeValue). blocks n (sites_rectangle design (subrow_at design.subrows t) k 1) ≡ true) (ap (node_value_at design.nodes) here ∙ sym is) blocked))
  ]);
}

pub marks_pass : (design : DesignValue) (node : NodeValue) (marks : List Mark) (i : ℕ) → AreMarks design i marks → node ≡ node_value_at design.nodes i → (IsSolid node → ⊥) → AreMarks design (i + 1) marks
marks_pass design node marks i are is hollow = record {
  each = are.each;
  all = λ j t k lt row inside blocked. elim (cases_lt j i) [
    | inl old ↦ are.all j t k old row inside blocked
    | inr last ↦
        let here : j ≡ i = omega arith in
        let site = sites_rectangle design (subrow_at design.subrows t) k 1 in
        let blocks_it : blocks node site ≡ true = subst (λ (n : NodeValue). blocks n site ≡ true) (ap (node_value_at design.nodes) here ∙ sym is) blocked in
        let meet = meet_of node site blocks_it in
        let forbids = and_parts node.fixed (not node.overlap) (and_parts (forbids_overlap node) (share_area (node_rectangle node) site) blocks_it).0 in
        absurd (hollow (record { fixed = forbids.0; forbids = not-true node.overlap forbids.1; wide = omega (arith, ints, clamps, meet.columns); high = omega (arith, ints, clamps, meet.rows) }))
  ];
}

pub marks_moved : (design : DesignValue) (n : ℕ) (marks sorted : List Mark) → AreMarks design n marks → IsPermutation marks sorted → AreMarks design n sorted
marks_moved design n marks sorted are moved = record {
  each = λ i lt. All-permutation (IsMark design) marks sorted moved (λ k d there. subst (λ (m : Mark). IsMark design m) (get_or_default marks k (mark_at [] 0) d there) (are.each k there)) i (mark_at [] 0) lt;
  all = λ i t k lt row inside blocked. has_moved (are.all i t k lt row inside blocked);
} where
  has_moved : {t k : ℕ} → HasMark marks t k → HasMark sorted t k
  has_moved has =
      let found = Contains-permutation marks sorted (mark_at marks has.at) moved (Contains-get_or marks has.at (mark_at [] 0) has.there) in
      let at : mark_at sorted found.0 ≡ mark_at marks has.at = get_or_default sorted found.0 (mark_at [] 0) (mark_at marks has.at) found.1 ∙ found.2 in
      record {
        at = found.0;
        there = found.1;
        subrow = ap (λ (m : Mark). m.subrow) at ∙ has.subrow;
        first = omega (arith, ap (λ (m : Mark). m.first) at, has.first);
        end = omega (arith, ap (λ (m : Mark). m.end) at, has.end);
      }

-- ---- the order of marks

abbrev pub mark_order : Mark → Mark → Ordering
mark_order a b = ordering_then (nat_cmp a.subrow b.subrow) (ordering_then (nat_cmp a.first b.first) (nat_cmp a.end b.end))

mark_total : IsTotalOrder mark_order
mark_total = then_total (on_total (λ (a : Mark). a.subrow) nat_cmp_total) (then_total (on_total (λ (a : Mark). a.first) nat_cmp_total) (on_total (λ (a : Mark). a.end) nat_cmp_total))

no_later : (a b : Mark) → is_lt (mark_order b a) ≡ false → IsNoLater a b
no_later a b h = elim (cases_order a.subrow b.subrow) [
  | inl same ↦ elim (cases_lt b.first a.first) [
    | inl less ↦ absurd (clash same less h)
    | inr le ↦ inr (same, le)
  ]
  | inr differ ↦ elim differ [ inl less ↦ inl less | inr more ↦ absurd (grind (arith, nat_tests)) ]
] where
  clash : a.subrow ≡ b.subrow → b.first < a.first → is_lt (mark_order b a) ≡ false → ⊥
  clash same less h =
      let one : nat_cmp b.subrow a.subrow ≡ Equal = grind (arith, nat_tests) in
      let two : nat_cmp b.first a.first ≡ Less = grind (arith, nat_tests) in
      let order : mark_order b a ≡ Less = ap (λ o. ordering_then o (ordering_then (nat_cmp b.first a.first) (nat_cmp b.end a.end))) one ∙ ap (λ o. ordering_then o (nat_cmp b.end a.end)) two in
      let test : true ≡ false = sym (ap is_lt order) ∙ h in cc

pub marks_sorted : (marks : List Mark) → IsSorted mark_order marks → AreSorted marks
marks_sorted marks sorted i j le lt = no_later (mark_at marks i) (mark_at marks j) (sorted_far (λ a b. is_lt (mark_order a b)) (ranks_by mark_total (λ (a : Mark). a)) marks sorted i j (mark_at [] 0) le lt)

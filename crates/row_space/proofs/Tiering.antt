-- The tiers in their order.
use Rattle.std.proofs.Common.{◌≡◌, ◌⊎◌, ℕ, ◌+◌, ◌<◌, ◌≤◌, Bool, true, false, List, [], ◌∷◌, ◌++◌, length, refl, sym, ap, ◌∙◌, subst, inl, inr, arith, ℤ, pos, negsuc, ◌≤ℤ◌, ◌<ℤ◌, ◌+ℤ◌, ◌*ℤ◌}
use Rattle.std.specs.Prelude.{int_lt, int_le, ◌&&◌, ◌||◌}
use Rattle.std.specs.declared.cmp.Ordering.{Ordering}
use Rattle.std.specs.Ordering.{nat_cmp, int_cmp, int_eq, ordering_then, is_lt}
use Rattle.std.specs.Cmp.{IsTotalOrder}
use Rattle.std.specs.List.Sorted.{IsPermutation, IsSorted, IsPartitionedBy}
use Rattle.std.proofs.lemmas.Int.{ints, by_lt_z}
use Rattle.std.proofs.lemmas.Bool.{cases_lt, cases_order}
use Rattle.std.proofs.Math.Nat.{mul-le-mul_right}
use Rattle.std.proofs.lemmas.Cmp.{nat_cmp_total, int_cmp_total, on_total, then_total}
use Rattle.std.proofs.lemmas.List.{get_or_default, get_or_append_left, get_or_push, length_push}
use Rattle.std.proofs.lemmas.List.Elements.{Contains-get_or}
use Rattle.std.proofs.lemmas.List.Sorted.{sorted_far, ranks_by, All-permutation, Contains-permutation}
use Rattle.book_design.specs.declared.parts.Subrow.{Subrow}
use Rattle.book_design.specs.Values.{DesignValue}
use Rattle.book_design.specs.WellFormed.{IsDesign, AreApart, subrow_at}
use Rattle.row_space.specs.declared.tiers.Tier.{Tier}
use Rattle.row_space.specs.Forms.Tiers.{tier_at, IsNoFurther, AreInOrder, IsTier, HasTier, AreTiers, IsPassed}
use Rattle.row_space.proofs.Comparing.{le_of, of_le}

abbrev pub blank : Tier
blank = record { y = pos 0; left = pos 0; right = pos 0; subrow = 0 }

-- ---- searches

pub no_further_y : (a b : Tier) → IsNoFurther a b → a.y ≤ℤ b.y
no_further_y a b (inl less) = omega (arith, ints)
no_further_y a b (inr same) = omega (arith, ints, same.0)

abbrev pub is_below : ℤ → Tier → Bool
is_below y tier = int_le tier.y y

pub parted : (tiers : List Tier) (y : ℤ) → AreInOrder tiers → IsPartitionedBy (is_below y) tiers
parted tiers y order i j d le lt passes =
    let upper = get_or_default tiers j d blank lt in
    let lower = get_or_default tiers i d blank (omega arith) in
    let rises = no_further_y (tier_at tiers i) (tier_at tiers j) (order i j le lt) in
    let below : (tier_at tiers j).y ≤ℤ y = le_of (tier_at tiers j).y y (subst (λ (tier : Tier). int_le tier.y y ≡ true) upper passes) in
    let under : (tier_at tiers i).y ≤ℤ y = omega (arith, ints, rises, below) in
    subst (λ (tier : Tier). int_le tier.y y ≡ true) (sym lower) (of_le (tier_at tiers i).y y under)

abbrev pub is_passed : ℤ → ℤ → Tier → Bool
is_passed y x tier = int_lt tier.y y || (int_eq tier.y y && int_le tier.right x)

pub passed_of : (y x : ℤ) (tier : Tier) → is_passed y x tier ≡ true → IsPassed y x tier
passed_of y x tier h = by_lt_z tier.y y (λ less. inl less) (λ more. by_lt_z x tier.right
    (λ out. absurd (grind (arith, ints)))
    (λ within. inr (grind (arith, ints), within)))

pub of_passed : (y x : ℤ) (tier : Tier) → IsPassed y x tier → is_passed y x tier ≡ true
of_passed y x tier (inl less) = grind (arith, ints)
of_passed y x tier (inr same) = grind (arith, ints)

passed_back : (y x : ℤ) (a b : Tier) → IsNoFurther a b → IsPassed y x b → IsPassed y x a
passed_back y x a b (inl less) (inl lower) = inl (omega (arith, ints))
passed_back y x a b (inl less) (inr same) = inl (omega (arith, ints, same.0))
passed_back y x a b (inr equal) (inl lower) = inl (omega (arith, ints, equal.0))
passed_back y x a b (inr equal) (inr same) = inr (equal.0 ∙ same.0, omega (arith, ints, equal.1.1, same.1))

pub passed_parted : (tiers : List Tier) (y x : ℤ) → AreInOrder tiers → IsPartitionedBy (is_passed y x) tiers
passed_parted tiers y x order i j d le lt passes =
    let upper = get_or_default tiers j d blank lt in
    let lower = get_or_default tiers i d blank (omega arith) in
    let last = passed_of y x (tier_at tiers j) (subst (λ (tier : Tier). is_passed y x tier ≡ true) upper passes) in
    let first = passed_back y x (tier_at tiers i) (tier_at tiers j) (order i j le lt) last in
    subst (λ (tier : Tier). is_passed y x tier ≡ true) (sym lower) (of_passed y x (tier_at tiers i) first)

-- ---- the order

-- by y, then by the left end
abbrev pub tier_order : Tier → Tier → Ordering
tier_order a b = ordering_then (int_cmp a.y b.y) (ordering_then (int_cmp a.left b.left) (ordering_then (int_cmp a.right b.right) (nat_cmp a.subrow b.subrow)))

tier_total : IsTotalOrder tier_order
tier_total = then_total (on_total (λ (a : Tier). a.y) int_cmp_total) (then_total (on_total (λ (a : Tier). a.left) int_cmp_total)
    (then_total (on_total (λ (a : Tier). a.right) int_cmp_total) (on_total (λ (a : Tier). a.subrow) nat_cmp_total)))

-- a tier that isn't later, by y and the left end
abbrev NotAfter : Tier → Tier → Type 0
NotAfter a b = (a.y <ℤ b.y) ⊎ ((a.y ≡ b.y) × (a.left ≤ℤ b.left))

not_after : (a b : Tier) → is_lt (tier_order b a) ≡ false → NotAfter a b
not_after a b h = by_lt_z b.y a.y (λ (more : b.y <ℤ a.y). absurd (grind (arith, ints)))
    (λ (le : a.y ≤ℤ b.y). by_lt_z a.y b.y (λ (less : a.y <ℤ b.y). inl less)
    (λ (ge : b.y ≤ℤ a.y). by_lt_z b.left a.left (λ (more : b.left <ℤ a.left). absurd (grind (arith, ints)))
    (λ (left : a.left ≤ℤ b.left). inr (omega (arith, ints), left))))

positive : (pitch : ℤ) (n : ℕ) → pos 1 ≤ℤ pitch → 0 < n → pos 0 <ℤ (pos n *ℤ pitch)
positive (pos p) n some more = let wide = mul-le-mul_right {m = 1} {n = n} p more in omega (arith, ints, wide)
positive (negsuc p) n some more = absurd (omega (arith, ints))

-- two subrows of one y that have sites: one ends before the other begins
side_by_side : (pitch height : ℤ) (s t : Subrow) → AreApart pitch height s t → 0 < s.sites → 0 < t.sites → s.y ≡ t.y → pos 1 ≤ℤ height
    → ((s.x +ℤ pos s.sites *ℤ pitch) ≤ℤ t.x) ⊎ ((t.x +ℤ pos t.sites *ℤ pitch) ≤ℤ s.x)
side_by_side pitch height s t apart some_s some_t same high = elim apart [
  | inl empty ↦ absurd (omega (arith, empty))
  | inr more ↦ elim more [
    | inl empty ↦ absurd (omega (arith, empty))
    | inr more ↦ elim more [
      | inl left ↦ inl left
      | inr more ↦ elim more [
        | inl right ↦ inr right
        | inr more ↦ elim more [
          | inl under ↦ absurd (omega (arith, ints, under, same))
          | inr over ↦ absurd (omega (arith, ints, over, same))
        ]
      ]
    ]
  ]
]

-- of two subrows of one y the one that begins no later ends no later
ends_by : (a b : Tier) → a.left ≤ℤ b.left → a.left <ℤ a.right → b.left <ℤ b.right → (a.right ≤ℤ b.left) ⊎ (b.right ≤ℤ a.left) → a.right ≤ℤ b.right
ends_by a b le wide_a wide_b (inl before) = omega (arith, ints)
ends_by a b le wide_a wide_b (inr behind) = absurd (omega (arith, ints))

ends_no_later : (design : DesignValue) (a b : Tier) → IsDesign design → IsTier design a → IsTier design b → a.y ≡ b.y → a.left ≤ℤ b.left → a.right ≤ℤ b.right
ends_no_later design a b valid is_a is_b same le = elim (cases_order a.subrow b.subrow) [
  | inl one ↦
      let ends = ap (λ n. (subrow_at design.subrows n).x +ℤ pos (subrow_at design.subrows n).sites *ℤ design.pitch) one in
      omega (arith, ints, ends, is_a.right, is_b.right)
  | inr differ ↦ ends_by a b le (wide a is_a) (wide b is_b) (elim differ [
    | inl less ↦ elim (side_by_side design.pitch design.row_height sub_a sub_b (valid.apart a.subrow b.subrow less is_b.there) is_a.some is_b.some rows valid.height_sign) [
      | inl before ↦ inl (omega (arith, ints, before, is_a.right, is_b.left))
      | inr behind ↦ inr (omega (arith, ints, behind, is_b.right, is_a.left))
    ]
    | inr more ↦ elim (side_by_side design.pitch design.row_height sub_b sub_a (valid.apart b.subrow a.subrow more is_a.there) is_b.some is_a.some (sym rows) valid.height_sign) [
      | inl behind ↦ inr (omega (arith, ints, behind, is_b.right, is_a.left))
      | inr before ↦ inl (omega (arith, ints, before, is_a.right, is_b.left))
    ]
  ])
] where
  sub_a : Subrow
  sub_a = subrow_at design.subrows a.subrow

  sub_b : Subrow
  sub_b = subrow_at design.subrows b.subrow

  rows : sub_a.y ≡ sub_b.y
  rows = sym is_a.at_y ∙ same ∙ is_b.at_y

  wide : (t : Tier) → IsTier design t → t.left <ℤ t.right
  wide t is_t = let some = positive design.pitch (subrow_at design.subrows t.subrow).sites valid.pitch_sign is_t.some in omega (arith, ints, some, is_t.left, is_t.right)

in_order : (design : DesignValue) (tiers : List Tier) → IsDesign design → ((i : ℕ) → i < length tiers → IsTier design (tier_at tiers i)) → IsSorted tier_order tiers → AreInOrder tiers
in_order design tiers valid each sorted i j le lt =
    let a = tier_at tiers i in
    let b = tier_at tiers j in
    elim (not_after a b (sorted_far (λ a b. is_lt (tier_order a b)) (ranks_by tier_total (λ (a : Tier). a)) tiers sorted i j blank le lt)) [
      | inl less ↦ inl less
      | inr same ↦ inr (same.0, (same.1, ends_no_later design a b valid (each i (omega arith)) (each j lt) same.0 same.1))
    ]

-- ---- the tiers of the first subrows

pub record AreTiersUpTo (design : DesignValue) (number : ℕ) (tiers : List Tier) : Type 0 where
  pub each : (i : ℕ) → i < length tiers → IsTier design (tier_at tiers i)
  pub all : (s : ℕ) → s < number → 0 < (subrow_at design.subrows s).sites → HasTier tiers s

pub no_tiers : (design : DesignValue) → AreTiersUpTo design 0 []
no_tiers design = record { each = λ i lt. absurd (omega arith); all = λ s lt some. absurd (omega arith) }

pub tier_more : (design : DesignValue) (number : ℕ) (tiers new : List Tier) (tier : Tier) → AreTiersUpTo design number tiers → IsTier design tier → tier.subrow ≡ number → new ≡ tiers ++ tier ∷ []
    → AreTiersUpTo design (number + 1) new
tier_more design number tiers new tier are own is added = subst (λ (ts : List Tier). AreTiersUpTo design (number + 1) ts) (sym added) (record {
  each = λ i lt. elim (cases_lt i (length tiers)) [
    | inl old ↦ subst (λ (t : Tier). IsTier design t) (sym (get_or_append_left tiers (tier ∷ []) blank i old)) (are.each i old)
    | inr last ↦
        let here : length tiers ≡ i = omega (arith, lt, length_push tiers tier) in
        subst (λ (t : Tier). IsTier design t) (sym (get_or_push tiers tier blank i here)) own
  ];
  all = λ s lt some. elim (cases_lt s number) [
    | inl old ↦
        let has = are.all s old some in
        record {
          at = has.at;
          there = omega (arith, has.there, length_push tiers tier);
          is = ap (λ (t : Tier). t.subrow) (get_or_append_left tiers (tier ∷ []) blank has.at has.there) ∙ has.is;
        }
    | inr last ↦
        let same : number ≡ s = omega arith in
        record {
          at = length tiers;
          there = omega (arith, length_push tiers tier);
          is = ap (λ (t : Tier). t.subrow) (get_or_push tiers tier blank (length tiers) refl) ∙ is ∙ same;
        }
  ];
})

-- a subrow without sites has none
pub tier_none : (design : DesignValue) (number : ℕ) (tiers : List Tier) → AreTiersUpTo design number tiers → (subrow_at design.subrows number).sites ≤ 0 → AreTiersUpTo design (number + 1) tiers
tier_none design number tiers are none = record {
  each = are.each;
  all = λ s lt some. elim (cases_lt s number) [
    | inl old ↦ are.all s old some
    | inr last ↦
        let same : (subrow_at design.subrows number).sites ≡ (subrow_at design.subrows s).sites = ap (λ n. (subrow_at design.subrows n).sites) (omega arith) in
        absurd (omega arith)
  ];
}

-- a sort of the tiers of all subrows
pub all_tiers : (design : DesignValue) (first tiers : List Tier) → IsDesign design → AreTiersUpTo design (length design.subrows) first → IsPermutation first tiers → IsSorted tier_order tiers → AreTiers design tiers
all_tiers design first tiers valid are moved sorted = record {
  each = each;
  all = λ s lt some. has (are.all s lt some);
  order = in_order design tiers valid each sorted;
} where
  each : (i : ℕ) → i < length tiers → IsTier design (tier_at tiers i)
  each i lt = All-permutation (IsTier design) first tiers moved (λ k d there. subst (λ (t : Tier). IsTier design t) (get_or_default first k blank d there) (are.each k there)) i blank lt

  has : {s : ℕ} → HasTier first s → HasTier tiers s
  has old =
      let found = Contains-permutation first tiers (tier_at first old.at) moved (Contains-get_or first old.at blank old.there) in
      record { at = found.0; there = found.1; is = ap (λ (t : Tier). t.subrow) (get_or_default tiers found.0 blank (tier_at first old.at) found.1 ∙ found.2) ∙ old.is }

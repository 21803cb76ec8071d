-- The subrows that have sites, in the order of y, then from left to right.
use Rattle.std.specs.Prelude.{◌≡◌, ◌⊎◌, ℕ, ◌<◌, ◌≤◌, List, length, slice_index_or, ℤ, pos, ◌+ℤ◌, ◌*ℤ◌, ◌≤ℤ◌, ◌<ℤ◌}
use Rattle.book_design.specs.Values.{DesignValue}
use Rattle.book_design.specs.WellFormed.{subrow_at}
use Rattle.row_space.specs.declared.tiers.Tier.{Tier}

-- past the end there is one of subrow 0
abbrev pub tier_at : List Tier → ℕ → Tier
tier_at tiers i = slice_index_or tiers i (record { y = pos 0; left = pos 0; right = pos 0; subrow = 0 })

-- a tier is of an earlier y, or of the same and begins and ends no later
abbrev pub IsNoFurther : Tier → Tier → Type 0
IsNoFurther a b = (a.y <ℤ b.y) ⊎ ((a.y ≡ b.y) × ((a.left ≤ℤ b.left) × (a.right ≤ℤ b.right)))

abbrev pub AreInOrder : List Tier → Type 0
AreInOrder tiers = (i j : ℕ) → i ≤ j → j < length tiers → IsNoFurther (tier_at tiers i) (tier_at tiers j)

-- the tier of a subrow that has a site
pub record IsTier (design : DesignValue) (tier : Tier) : Type 0 where
  pub there : tier.subrow < length design.subrows
  pub some : 0 < (subrow_at design.subrows tier.subrow).sites
  pub at_y : tier.y ≡ (subrow_at design.subrows tier.subrow).y
  pub left : tier.left ≡ (subrow_at design.subrows tier.subrow).x
  pub right : tier.right ≡ (subrow_at design.subrows tier.subrow).x +ℤ pos (subrow_at design.subrows tier.subrow).sites *ℤ design.pitch

-- one of the tiers is of the subrow
pub record HasTier (tiers : List Tier) (number : ℕ) : Type 0 where
  pub at : ℕ
  pub there : at < length tiers
  pub is : (tier_at tiers at).subrow ≡ number

-- Each tier is of a subrow that has a site, each of these has one, and they are in order.
pub record AreTiers (design : DesignValue) (tiers : List Tier) : Type 0 where
  pub each : (i : ℕ) → i < length tiers → IsTier design (tier_at tiers i)
  pub all : (number : ℕ) → number < length design.subrows → 0 < (subrow_at design.subrows number).sites → HasTier tiers number
  pub order : AreInOrder tiers

-- a tier is of an earlier y, or of this one and ends at x or left of it
abbrev pub IsPassed : ℤ → ℤ → Tier → Type 0
IsPassed y x tier = (tier.y <ℤ y) ⊎ ((tier.y ≡ y) × (tier.right ≤ℤ x))

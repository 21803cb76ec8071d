-- Subrows of rows of one height, as the code keeps them.
use Rattle.std.specs.Prelude.{ℕ, List, map, ◌^◌, ℤ, pos, neg_ℤ, ◌+ℤ◌, ◌≤ℤ◌, Option, Some, None}
use Rattle.book_design.specs.declared.strips.Strip.{Strip as Kept}
use Rattle.book_design.specs.Records.{Strip}
use Rattle.book_design.specs.Faults.{IsFirst, IsOverlapping}

abbrev pub strip_value : ℤ → Kept → Strip
strip_value height s = record { row = s.row; left = s.left; right = s.right; lower = s.lower; upper = s.lower +ℤ height; sites = s.sites }

abbrev pub strip_values : ℤ → List Kept → List Strip
strip_values height kept = map (strip_value height) kept

-- what the code may take for granted of numbers read from a file
pub record IsStripInRange (s : Kept) : Type 0 where
  pub left_low : neg_ℤ (pos (10 ^ 12)) ≤ℤ s.left
  pub left_high : s.left ≤ℤ pos (10 ^ 12)
  pub right_low : s.left ≤ℤ s.right
  pub right_high : s.right ≤ℤ pos (2 ^ 82)
  pub lower_low : neg_ℤ (pos (10 ^ 12)) ≤ℤ s.lower
  pub lower_high : s.lower ≤ℤ pos (10 ^ 12)

-- the first subrow that shares area with an earlier one, or none where there is none
abbrev pub IsFirstOverlap : List Strip → Option ℕ → Type 0
IsFirstOverlap all None = (s : ℕ) → IsOverlapping all s → ⊥
IsFirstOverlap all (Some s) = IsFirst (IsOverlapping all) s

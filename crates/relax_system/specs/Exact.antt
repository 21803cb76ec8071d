-- Exact solutions of the equations, and what encloses them.
use Rattle.std.specs.Prelude.{◌≡◌, ℕ, ◌+◌, ◌*◌, ◌<◌, ◌≤◌, List, [], ◌∷◌, length, slice_index, slice_index_or, ℤ, pos, ◌+ℤ◌, ◌*ℤ◌, ◌≤ℤ◌}
use Rattle.relax_system.specs.declared.points.Near.{Near}
use Rattle.relax_system.specs.declared.points.Point.{Point}
use Rattle.relax_system.specs.System.{point_at, total_weight}
use Rattle.relax_system.specs.Means.{pull}

-- the entry of a list of whole numbers of either sign, 0 past the end
abbrev pub signed_at : List ℤ → ℕ → ℤ
signed_at z i = slice_index_or z i (pos 0)

-- the sum of weight times coordinate over the neighbours
abbrev pub signed_sum : List Near → List ℤ → ℤ
signed_sum [] z = pos 0
signed_sum (n ∷ near) z = (pos n.weight *ℤ signed_at z n.point) +ℤ signed_sum near z

-- z over d solves the equations without rounding; z needn't lie in the boxes
pub record IsExact (points : List Point) (d : ℕ) (z : List ℤ) : Type 0 where
  pub positive : 1 ≤ d
  pub all : length z ≡ length points
  pub each : (i : ℕ) → i < length points → (pos (total_weight (point_at points i)) *ℤ signed_at z i) ≡ (signed_sum (point_at points i).near z +ℤ pos (d * (point_at points i).anchored))

-- z over d lies between the two vectors
abbrev pub IsBetween : List ℕ → List ℕ → ℕ → List ℤ → Type 0
IsBetween lo hi d z = (i : ℕ) → i < length z → (pos (d * slice_index lo i) ≤ℤ signed_at z i) × (signed_at z i ≤ℤ pos (d * slice_index hi i))

-- what a rounded-down equation leaves is from 0 to less than the total weight
abbrev pub HasLowerResiduals : List Point → List ℕ → Type 0
HasLowerResiduals points lo = (i : ℕ) → i < length points →
    (total_weight (point_at points i) * slice_index lo i ≤ pull (point_at points i) lo) × (pull (point_at points i) lo < total_weight (point_at points i) * slice_index lo i + total_weight (point_at points i))

-- what a rounded-up equation leaves is from 0 to less than the total weight
abbrev pub HasUpperResiduals : List Point → List ℕ → Type 0
HasUpperResiduals points hi = (i : ℕ) → i < length points →
    (pull (point_at points i) hi ≤ total_weight (point_at points i) * slice_index hi i) × (total_weight (point_at points i) * slice_index hi i < pull (point_at points i) hi + total_weight (point_at points i))

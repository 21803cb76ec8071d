-- Points that are being put in order, and what a walk over them has found.
use Rattle.std.specs.Prelude.{◌≡◌, ℕ, ◌+◌, ◌*◌, ◌<◌, ◌≤◌, List, length, slice_index, take, map, All}
use Rattle.area_cut.specs.declared.order.Placed.{Placed}
use Rattle.area_cut.specs.Cut.{area_of}

-- the numbers of points that were put in order
abbrev pub numbers_of : List Placed → List ℕ
numbers_of order = map (λ placed. placed.point) order

-- so many points are the first part: all shorter fronts fall short of half of the area, and this one doesn't, or leaves one point
pub record IsFirstCount (areas order : List ℕ) (total n : ℕ) : Type 0 where
  pub some : 1 ≤ n
  pub short : n < length order
  pub fewer : (m : ℕ) → 1 ≤ m → m < n → 2 * area_of areas (take m order) < total
  pub enough : n + 1 < length order → total ≤ 2 * area_of areas (take n order)

-- the points with their mids
abbrev pub placed_points : List ℕ → List ℕ → List Placed
placed_points mids points = map (λ p. record { mid = slice_index mids p; point = p }) points

-- each stands at its point's mid
abbrev pub ArePlaced : List ℕ → List Placed → Type 0
ArePlaced mids order = All (λ placed. placed.mid ≡ slice_index mids placed.point) order

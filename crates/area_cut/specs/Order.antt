-- The cut in the words of its rule: points in the order of (mid, number), the shortest front with half of the area, and
-- how far apart the areas of the two parts are.
use Rattle.std.specs.Prelude.{◌≡◌, ℕ, ◌+◌, ◌*◌, ◌<◌, ◌≤◌, true, List, length, take}
use Rattle.std.specs.List.{AllPairs}
use Rattle.std.specs.List.Sorted.{IsPermutation}
use Rattle.area_cut.specs.Cut.{area_of, precedes, first_points, second_points}

-- the points in the order of (mid, number)
pub record IsInOrder (mids points order : List ℕ) : Type 0 where
  pub same : IsPermutation points order
  pub rises : AllPairs (λ p q. precedes mids p q ≡ true) order

-- the first n points are the shortest front of at least one point whose doubled area is at least the whole
pub record IsShortestFront (areas order : List ℕ) (n : ℕ) : Type 0 where
  pub some : 1 ≤ n
  pub within : n ≤ length order
  pub enough : area_of areas order ≤ 2 * area_of areas (take n order)
  pub shortest : (m : ℕ) → 1 ≤ m → m < n → 2 * area_of areas (take m order) < area_of areas order

-- the areas of the two parts of some points differ by at most twice this area
pub record AreBalanced (areas mids points : List ℕ) (most : ℕ) : Type 0 where
  pub first : area_of areas (first_points areas mids points) ≤ area_of areas (second_points areas mids points) + 2 * most
  pub second : area_of areas (second_points areas mids points) ≤ area_of areas (first_points areas mids points) + 2 * most

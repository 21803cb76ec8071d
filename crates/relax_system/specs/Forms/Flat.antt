-- A system's points in flat arrays.
use Rattle.std.specs.Prelude.{◌≡◌, ℕ, ◌+◌, ◌*◌, ◌^◌, ◌<◌, ◌≤◌, List, length, map, take, slice_index, sum_by, All, Bool, IsTrue}
use Rattle.std.specs.List.{flat_map, zip}
use Rattle.relax_system.specs.declared.points.Point.{Point}
use Rattle.relax_system.specs.declared.valid.TheConstants.{MOST_COORDINATE, MOST_WEIGHT}
use Rattle.relax_system.specs.System.{total_weight}

-- the neighbours' numbers of a point, and their weights
abbrev pub near_numbers : Point → List ℕ
near_numbers p = map (λ n. n.point) p.near

abbrev pub near_weights : Point → List ℕ
near_weights p = map (λ n. n.weight) p.near

-- the same of all points, one after another
abbrev pub numbers_of : List Point → List ℕ
numbers_of points = flat_map near_numbers points

abbrev pub weights_of : List Point → List ℕ
weights_of points = flat_map near_weights points

-- The arrays hold the points: all neighbours one after another, and where each point's begin.
pub record IsFlat (points : List Point) (starts numbers weights totals anchored : List ℕ) : Type 0 where
  pub many : length starts ≡ length points + 1
  pub starting : (k : ℕ) → k ≤ length points → slice_index starts k ≡ length (numbers_of (take k points))
  pub numbered : numbers ≡ numbers_of points
  pub weighted : weights ≡ weights_of points
  pub summed : totals ≡ map total_weight points
  pub pulled : anchored ≡ map (λ p. p.anchored) points

-- the sum of weight times coordinate over two lists of the same length
abbrev pub dot : List ℕ → List ℕ → List ℕ → ℕ
dot numbers weights v = sum_by (λ e. e.1 * slice_index v e.0) (zip numbers weights)

-- What the mean of a row needs: the neighbours are there, and the sums fit.
pub record IsSoundRow (narrow : Bool) (numbers weights : List ℕ) (anchored total : ℕ) (v : List ℕ) : Type 0 where
  pub same : length numbers ≡ length weights
  pub there : All (λ n. n < length v) numbers
  pub fits : IsTrue narrow → dot numbers weights v + anchored < 2 ^ 64
  pub high : dot numbers weights v + anchored ≤ total * MOST_COORDINATE
  pub positive : 1 ≤ total
  pub light : total ≤ MOST_WEIGHT

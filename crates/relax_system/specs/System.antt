-- Systems of point equations: boxes, neighbours with weights, anchors.
use Rattle.std.specs.Prelude.{◌≡◌, ◌≢◌, ℕ, ◌+◌, ◌*◌, ◌<◌, ◌≤◌, List, [], length, map, sum_by, slice_index_or, All, nat_le}
use Rattle.pad_reach.specs.Chain.{Joint}
use Rattle.relax_system.specs.declared.points.Near.{Near}
use Rattle.relax_system.specs.declared.points.Point.{Point}
use Rattle.relax_system.specs.declared.valid.TheConstants.{MOST_POINTS, MOST_COORDINATE, MOST_WEIGHT}

-- past the end there is no point: no box, no neighbour, no anchor
abbrev pub no_point : Point
no_point = record { lo = 0; hi = 0; near = []; anchor = 0; anchored = 0 }

abbrev pub point_at : List Point → ℕ → Point
point_at points i = slice_index_or points i no_point

-- the sum of the weights to the neighbours
abbrev pub near_weight : List Near → ℕ
near_weight near = sum_by (λ n. n.weight) near

-- the anchor's weight and the neighbours' weights
abbrev pub total_weight : Point → ℕ
total_weight p = p.anchor + near_weight p.near

-- A neighbour is another point with the same box, and its weight is at least 1.
pub record IsValidNear (points : List Point) (i : ℕ) (n : Near) : Type 0 where
  pub there : n.point < length points
  pub other : n.point ≢ i
  pub same_lo : (point_at points n.point).lo ≡ (point_at points i).lo
  pub same_hi : (point_at points n.point).hi ≡ (point_at points i).hi
  pub positive : 1 ≤ n.weight

-- The box isn't empty and lies within the range of coordinates. The total weight is at least 1 and at most the greatest one, and the anchored sum is that of constants in the box.
pub record IsValidPoint (points : List Point) (i : ℕ) (p : Point) : Type 0 where
  pub ordered : p.lo ≤ p.hi
  pub limit : p.hi ≤ MOST_COORDINATE
  pub near : All (IsValidNear points i) p.near
  pub joined : 1 ≤ total_weight p
  pub light : total_weight p ≤ MOST_WEIGHT
  pub anchored_low : p.anchor * p.lo ≤ p.anchored
  pub anchored_high : p.anchored ≤ p.anchor * p.hi

-- A valid system: at most so many points, each of them valid.
pub record IsValid (points : List Point) : Type 0 where
  pub few : length points ≤ MOST_POINTS
  pub each : (i : ℕ) → i < length points → IsValidPoint points i (point_at points i)

-- The system as a web: a point is anchored where its anchor weight is at least 1.
abbrev pub joint_of : Point → Joint
joint_of p = record { near = map (λ n. n.point) p.near; anchored = nat_le 1 p.anchor }

abbrev pub joints_of : List Point → List Joint
joints_of points = map joint_of points

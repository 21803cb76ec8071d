-- Both sides at once: from below with rounded-down means, and from above with rounded-up means.
use Rattle.std.specs.Prelude.{ℕ, ◌-◌, ◌<◌, ◌≤◌, List, length, slice_index, map, sum_by, max, min}
use Rattle.std.specs.List.{zip}
use Rattle.relax_system.specs.declared.side.Side.{Side}
use Rattle.relax_system.specs.declared.side.Side.TheVariants.{Floor, Ceil}
use Rattle.relax_system.specs.declared.points.Point.{Point}
use Rattle.relax_system.specs.Means.{floor_mean, ceil_mean, InBoxes}

-- a stands before b on the way of the side: below it going up, above it going down
abbrev pub Before : Side → ℕ → ℕ → Type 0
Before Floor a b = a ≤ b
Before Ceil a b = b ≤ a

-- of two coordinates the one that stands further on the way
abbrev pub further_of : Side → ℕ → ℕ → ℕ
further_of Floor a b = max a b
further_of Ceil a b = min a b

-- how far the way leads from a to b
abbrev pub apart : Side → ℕ → ℕ → ℕ
apart Floor a b = b - a
apart Ceil a b = a - b

-- the same over all entries of two vectors
abbrev pub distance : Side → List ℕ → List ℕ → ℕ
distance side u v = sum_by (λ e. apart side e.0 e.1) (zip u v)

-- the side's rounded mean of a point
abbrev pub mean_of : Side → List Point → ℕ → List ℕ → ℕ
mean_of Floor points i v = floor_mean points i v
mean_of Ceil points i v = ceil_mean points i v

-- where the side's way begins
abbrev pub start_of : Side → Point → ℕ
start_of Floor p = p.lo
start_of Ceil p = p.hi

abbrev pub starts_of : Side → List Point → List ℕ
starts_of side points = map (start_of side) points

abbrev pub AllBefore : Side → List ℕ → List ℕ → Type 0
AllBefore side u v = (i : ℕ) → Before side (slice_index u i) (slice_index v i)

-- no mean stands past its entry
abbrev pub IsQuiet : Side → List Point → List ℕ → Type 0
IsQuiet side points v = (i : ℕ) → i < length points → Before side (mean_of side points i v) (slice_index v i)

-- the quiet vector of the boxes that stands before each quiet vector of the boxes
pub record IsExtremal (side : Side) (points : List Point) (v : List ℕ) : Type 0 where
  pub in_boxes : InBoxes points v
  pub quiet : IsQuiet side points v
  pub first : (u : List ℕ) → InBoxes points u → IsQuiet side points u → AllBefore side v u

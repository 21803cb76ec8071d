-- The two ways of a table: upwards from the bottoms with greater numbers, and downwards from the tops with smaller ones.
use Rattle.std.specs.Prelude.{ℕ, ◌<◌, ◌≤◌, List, Bool, true, false, nat_lt}
use Rattle.std.specs.List.{slice_index}
use Rattle.relax_system.specs.declared.side.Side.{Side}
use Rattle.relax_system.specs.declared.side.Side.TheVariants.{Floor, Ceil}
use Rattle.relax_system.specs.declared.points.Point.{Point}
use Rattle.relax_system.specs.Means.{InBoxes}
use Rattle.relax_system.specs.Sides.{Before, IsQuiet, mean_of}

-- whether b stands past a
abbrev pub is_past : Side → ℕ → ℕ → Bool
is_past Floor a b = nat_lt a b
is_past Ceil a b = nat_lt b a

abbrev pub one_if : Bool → ℕ
one_if true = 1
one_if false = 0

-- a quiet vector of the boxes: a pre-fixed one going up, a post-fixed one going down
pub record IsQuietVector (side : Side) (points : List Point) (u : List ℕ) : Type 0 where
  pub in_boxes : InBoxes points u
  pub quiet : IsQuiet side points u

-- no mean of the points from the one number to the other stands past its entry
abbrev pub IsQuietIn : Side → List Point → ℕ → ℕ → List ℕ → Type 0
IsQuietIn side points from to v = (i : ℕ) → from ≤ i → i < to → Before side (mean_of side points i v) (slice_index v i)

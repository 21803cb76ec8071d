-- What the solves of a crew reach, with fewer and fewer halvings.
use Rattle.std.specs.Prelude.{◌≡◌, ℕ, ◌≤◌, List}
use Rattle.relax_system.specs.declared.side.Side.{Side}
use Rattle.relax_system.specs.declared.points.Point.{Point}
use Rattle.relax_system.specs.Sides.{starts_of, distance, IsExtremal}
use Rattle.relax_system.specs.Halved.{halved, doubled}
use Rattle.relax_table.specs.Seats.{SeatState}

-- a seat of so many that has seen the extremal vector of a table with this start, and has moved words no further than from the start
pub record IsSettled (side : Side) (points : List Point) (start : List ℕ) (many : ℕ) (s : SeatState) : Type 0 where
  pub same_system : s.system ≡ points
  pub same_start : s.start ≡ start
  pub parts : s.parts ≡ many
  pub extremal : IsExtremal side points s.seen
  pub paid : s.moves ≤ distance side start s.seen

-- The extremal vector of the system with so many halvings. The moves of all solves are at most its distance from the ends of the
-- boxes.
pub record IsReached (side : Side) (points : List Point) (shift : ℕ) (found : List ℕ) (moves : ℕ) : Type 0 where
  pub extremal : IsExtremal side (halved side shift points) found
  pub paid : moves ≤ distance side (starts_of side (halved side shift points)) found

-- The seat of the last solve, whose start is twice what the one before has found, and the moves of all solves.
pub record IsSolved (side : Side) (points : List Point) (many : ℕ) (s : SeatState) (moves : ℕ) : Type 0 where
  pub found : List ℕ
  pub before : IsExtremal side (halved side 1 points) found
  pub settled : IsSettled side points (doubled side points found) many s
  pub counted : s.moves ≤ moves
  pub paid : moves ≤ distance side (starts_of side points) s.seen

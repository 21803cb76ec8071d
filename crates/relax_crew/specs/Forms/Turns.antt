-- How a crew deals out the points, and what its seats do.
use Rattle.std.specs.Prelude.{◌≡◌, ℕ, ◌+◌, ◌*◌, ◌/◌, List, length, All, Bool, true, false, nat_lt}
use Rattle.relax_system.specs.declared.side.Side.{Side}
use Rattle.relax_system.specs.declared.points.Point.{Point}
use Rattle.relax_system.specs.Sides.{IsExtremal}
use Rattle.relax_table.specs.declared.chase.TheConstants.{MOST_PASSES}
use Rattle.relax_table.specs.Seats.{TableState, SeatState, IsSeatOf, BeginsWithSweep, TakesPasses, mark_words}

-- the first point of the seat k, where so many points are dealt out to so many seats
abbrev pub first_point : ℕ → ℕ → ℕ → ℕ
first_point k seats points = k * points / seats

-- the mark word of a point
abbrev pub first_mark : ℕ → ℕ
first_mark from = from / 64

-- the mark word past the last one of the points from the one to before the other, if there are any
abbrev pub marks_end : Bool → ℕ → ℕ → ℕ
marks_end true from to = mark_words to
marks_end false from to = first_mark from

-- Its steps began with a sweep over these points, the one that calls the gate. Then it chased their mark words, and then its steps
-- began with another such sweep, the first one of its settling; from then on it took no mark word.
pub record IsTurnOver (points : List Point) (from to : ℕ) (old new : SeatState) : Type 0 where
  pub chased : SeatState
  pub first : BeginsWithSweep points from to old chased
  pub chase : TakesPasses MOST_PASSES (first_mark from) (marks_end (nat_lt from to) from to) old chased
  pub again : BeginsWithSweep points from to chased new
  pub takes : new.takes ≡ chased.takes

-- what the seat k of so many did: its turn over its own points
abbrev pub IsTurn : List Point → ℕ → ℕ → SeatState → SeatState → Type 0
IsTurn points k seats old new = IsTurnOver points (first_point k seats (length points)) (first_point (k + 1) seats (length points)) old new

-- each seat is one of the table
abbrev pub AllSeated : TableState → List SeatState → Type 0
AllSeated t crew = All (IsSeatOf t) crew

-- each is one seat, and none is made of several
abbrev pub AllSingle : List SeatState → Type 0
AllSingle crew = All (λ s. s.parts ≡ 1) crew

-- a seat of the table, made of so many, that has seen the extremal vector
pub record HasRun (side : Side) (t : TableState) (many : ℕ) (s : SeatState) : Type 0 where
  pub own : IsSeatOf t s
  pub parts : s.parts ≡ many
  pub extremal : IsExtremal side t.system s.seen

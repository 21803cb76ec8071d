-- The seats of a table on which a schedule is replayed.
use Rattle.std.specs.Prelude.{◌≡◌, ℕ, ◌<◌, ◌≤◌, List, [], ◌∷◌, ◌++◌, length, sum, map, All, slice_index_or, ◌&&◌, ◌==◌, nat_lt, if◌then◌else◌}
use Rattle.std.specs.List.{HoldsAt, flat_map}
use Rattle.book_files.specs.declared.schedule.Event.{Event}
use Rattle.book_files.specs.declared.schedule.Event.TheVariants as event
use Rattle.relax_system.specs.declared.side.Side.{Side}
use Rattle.relax_system.specs.declared.points.Point.{Point}
use Rattle.relax_system.specs.Sides.{distance, starts_of, IsExtremal}
use Rattle.relax_table.specs.Seats.{TableState, SeatState, IsSeatOf}

-- each seat is one of the table
abbrev pub AllSeated : TableState → List SeatState → Type 0
AllSeated t seats = All (IsSeatOf t) seats

-- the moves of each seat
abbrev pub moves_of : List SeatState → List ℕ
moves_of seats = map (λ s. s.moves) seats

-- the first seat has seen the extremal vector
abbrev pub IsFirstDone : Side → TableState → List SeatState → Type 0
IsFirstDone side t seats = HoldsAt (λ s. IsExtremal side t.system s.seen) seats 0

-- what is answered of a schedule: the extremal vector, and the raises of each seat, which are at most what that vector went
pub record IsPlayed (side : Side) (points : List Point) (seats : ℕ) (values raises : List ℕ) : Type 0 where
  pub extremal : IsExtremal side points values
  pub each : length raises ≡ seats
  pub paid : sum raises ≤ distance side (starts_of side points) values

-- the point that an event has a seat load, where it is one of so many
abbrev pub loaded_by : ℕ → ℕ → Event → List ℕ
loaded_by seat points (event.Load s p) = if s == seat && nat_lt p points then p ∷ [] else []
loaded_by seat points (event.Renew s p) = []

-- the point that an event has a seat renew
abbrev pub renewed_by : ℕ → ℕ → Event → List ℕ
renewed_by seat points (event.Load s p) = []
renewed_by seat points (event.Renew s p) = if s == seat && nat_lt p points then p ∷ [] else []

-- The seat of that number made the steps of its events, in order, and no others.
pub record MakesOwn (seat points : ℕ) (events : List Event) (old new : SeatState) : Type 0 where
  pub looked : new.looked ≡ old.looked ++ flat_map (loaded_by seat points) events
  pub renewed : new.renewed ≡ old.renewed ++ flat_map (renewed_by seat points) events

-- each of the seats did
abbrev pub EachMakesOwn : ℕ → List Event → List SeatState → List SeatState → Type 0
EachMakesOwn points events old new = (k : ℕ) (d : SeatState) → k < length old → MakesOwn k points events (slice_index_or old k d) (slice_index_or new k d)

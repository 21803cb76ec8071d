-- The machine of explicit events, and its one step.
use Rattle.std.specs.Prelude.{ℕ, ◌+◌, ◌≤◌, List, [], length, replicate, slice_index, slice_index_or, slice_set, Bool, ◌&&◌, nat_lt, if◌then◌else◌}
use Rattle.relax_system.specs.declared.side.Side.{Side}
use Rattle.relax_system.specs.declared.points.Point.{Point}
use Rattle.relax_system.specs.Sides.{starts_of}
use Rattle.relax_table.specs.Ways.{is_past, one_if}
use Rattle.relax_table.specs.Step.{Kind, word_after, seen_after}
use Rattle.relax_table.specs.Step.Kind.{Load, Renew}
use Rattle.book_files.specs.declared.schedule.Event.{Event}
use Rattle.book_files.specs.declared.schedule.Event.TheVariants as event
use Rattle.book_files.specs.Schedule.{seat_of, point_of}
use Rattle.relax_world.specs.declared.world.TheConstants.{MOST_WORLD_SEATS}

-- a number of seats that a machine may have
abbrev pub IsSeatCount : ℕ → Type 0
IsSeatCount seats = (1 ≤ seats) × (seats ≤ MOST_WORLD_SEATS)

-- The side from which the system is solved, its points, a word per point, what each seat has seen of the words, and how many
-- steps changed a word.
pub record WorldState : Type 0 where
  pub side : Side
  pub system : List Point
  pub words : List ℕ
  pub seen : List (List ℕ)
  pub changes : ℕ

abbrev pub world_of : Side → List Point → List ℕ → List (List ℕ) → ℕ → WorldState
world_of side system words seen changes = record { side = side; system = system; words = words; seen = seen; changes = changes }

-- before the first event: each word is where the side begins, and each seat has seen that
abbrev pub first_world : Side → List Point → ℕ → WorldState
first_world side points seats = world_of side points (starts_of side points) (replicate seats (starts_of side points)) 0

-- what an event says, in the words of a table's steps
abbrev pub kind_of : Event → Kind
kind_of (event.Load seat point) = Load
kind_of (event.Renew seat point) = Renew

abbrev pub is_there : WorldState → ℕ → ℕ → Bool
is_there w seat point = nat_lt seat (length w.seen) && nat_lt point (length w.words)

-- what a seat has seen
abbrev pub seen_by : WorldState → ℕ → List ℕ
seen_by w seat = slice_index_or w.seen seat []

-- the word of a point after a seat's step on it
abbrev pub word_by : WorldState → Kind → ℕ → ℕ → ℕ
word_by w kind seat point = word_after w.side w.system kind point (slice_index w.words point) (seen_by w seat)

-- A seat's step on the word of a point: that of a table. It is counted where it changed the word.
abbrev pub stepped : WorldState → Kind → ℕ → ℕ → WorldState
stepped w kind seat point = record {
  side = w.side;
  system = w.system;
  words = slice_set w.words point (word_by w kind seat point);
  seen = slice_set w.seen seat (seen_after w.side w.system kind point (slice_index w.words point) (seen_by w seat));
  changes = w.changes + one_if (is_past w.side (slice_index w.words point) (word_by w kind seat point));
}

-- An event is a step where its seat and its point are there, and else nothing.
abbrev pub world_after : WorldState → Event → WorldState
world_after w e = if is_there w (seat_of e) (point_of e) then stepped w (kind_of e) (seat_of e) (point_of e) else w

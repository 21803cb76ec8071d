-- The rule of a table over the words of its points, its start and the views of all seats, and what each step leaves.
use Rattle.std.specs.Prelude.{◌≡◌, ◌⊎◌, ℕ, ◌+◌, ◌-◌, ◌^◌, ◌<◌, ◌≤◌, min, List, [], ◌∷◌, ◌++◌, length, map, sum_by, true, false}
use Rattle.std.specs.List.{slice_index, zip}
use mathlib.Core.Option.{some}
use lib.ListN.{get_elem?}
use Rattle.atomic_table.specs.Seated.{TableId}
use Rattle.relax_system.specs.declared.side.Side.{Side}
use Rattle.relax_system.specs.declared.points.Point.{Point}
use Rattle.relax_system.specs.System.{IsValid}
use Rattle.relax_system.specs.Means.{InBoxes}
use Rattle.relax_system.specs.Sides.{Before, AllBefore, further_of, distance}
use Rattle.relax_table.specs.declared.rule.View.{View}
use Rattle.relax_table.specs.Ways.{is_past, one_if, IsQuietVector}
use Rattle.relax_table.specs.Step.{Kind, word_after, seen_after}
use Rattle.relax_table.specs.Step.Kind.{Load, Renew}
use Rattle.relax_table.specs.Seats.{SeatState, IsSound}
use Rattle.relax_table.specs.Forms.Chase.{idle_after}

-- a seat as clauses see it
abbrev pub state_of : TableId → View → SeatState
state_of id v = record { table = id; system = v.system; start = v.start; seen = v.seen; looked = v.looked; renewed = v.renewed; loads = v.loads; fetches = v.fetches; moves = v.moves; takes = v.takes; idle = v.idle; parts = v.parts; found = v.found }

-- the moves of all seats together
abbrev pub all_moves : List View → ℕ
all_moves views = sum_by (λ v. v.moves) views

-- A view that isn't spent is of this system and this start. What it has seen stands from the start on, and before the words.
pub record IsInStep (side : Side) (points : List Point) (start words : List ℕ) (v : View) : Type 0 where
  pub same_system : v.system ≡ points
  pub same_start : v.start ≡ start
  pub in_boxes : InBoxes points v.seen
  pub started : AllBefore side start v.seen
  pub behind : AllBefore side v.seen words

-- a seat that isn't spent has seen x as the word of the point i
pub record IsSeenBySome (views : List View) (i x : ℕ) : Type 0 where
  pub seat : ℕ
  pub view : View
  pub there : get_elem? views seat ≡ some view
  pub unspent : view.spent ≡ false
  pub seen : slice_index view.seen i ≡ x

-- how many words stand past their entries of the start
abbrev pub moved_words : Side → List ℕ → List ℕ → ℕ
moved_words side start words = sum_by (λ e. one_if (is_past side e.0 e.1)) (zip start words)

-- The words stand from the start on, and before each quiet vector. Each word is its entry of the start or one that a seat has
-- seen. All moves together are at least the words that differ from the start, and at most what the words went from it.
pub record Keeps (side : Side) (points : List Point) (start words : List ℕ) (views : List View) : Type 0 where
  pub valid : IsValid points
  pub start_boxes : InBoxes points start
  pub in_boxes : InBoxes points words
  pub started : AllBefore side start words
  pub first : (u : List ℕ) → IsQuietVector side points u → AllBefore side words u
  pub each : (k : ℕ) (v : View) → get_elem? views k ≡ some v → v.spent ≡ false → IsInStep side points start words v
  pub seen : (i : ℕ) → i < length points → (slice_index words i ≡ slice_index start i) ⊎ IsSeenBySome views i (slice_index words i)
  pub counted : moved_words side start words ≤ all_moves views
  pub paid : all_moves views ≤ distance side start words

-- the first view
abbrev pub opened : List Point → List ℕ → View
opened points start = record { system = points; start = start; seen = start; looked = []; renewed = []; loads = 0; fetches = 0; moves = 0; takes = 0; idle = 0; parts = 1; found = 0; spent = false }

-- a seat that is split off has seen the same, has made no step, and is one seat
abbrev pub sprout : View → View
sprout v = record { system = v.system; start = v.start; seen = v.seen; looked = []; renewed = []; loads = 0; fetches = 0; moves = 0; takes = 0; idle = 0; parts = 1; found = 0; spent = v.spent }

-- of two vectors the entries that stand further on the way
abbrev pub furthest : Side → List ℕ → List ℕ → List ℕ
furthest side u v = map (λ e. further_of side e.0 e.1) (zip u v)

-- two seats made one
abbrev pub joined : Side → View → View → View
joined side v w = record {
  system = v.system;
  start = v.start;
  seen = furthest side v.seen w.seen;
  looked = v.looked ++ w.looked;
  renewed = v.renewed ++ w.renewed;
  loads = v.loads + w.loads;
  fetches = v.fetches + w.fetches;
  moves = v.moves + w.moves;
  takes = v.takes + w.takes;
  idle = 0;
  parts = v.parts + w.parts;
  found = v.found;
  spent = v.spent;
}

-- what a join leaves behind
abbrev pub gone : View
gone = record { system = []; start = []; seen = []; looked = []; renewed = []; loads = 0; fetches = 0; moves = 0; takes = 0; idle = 0; parts = 0; found = 0; spent = true }

-- the view after a step on the word of the point i that found x
abbrev pub stepped_view : Side → Kind → ℕ → View → ℕ → View
stepped_view side Load i v x = record {
  system = v.system;
  start = v.start;
  seen = seen_after side v.system Load i x v.seen;
  looked = v.looked ++ i ∷ [];
  renewed = v.renewed;
  loads = v.loads + 1;
  fetches = v.fetches;
  moves = v.moves;
  takes = v.takes;
  idle = v.idle;
  parts = v.parts;
  found = x;
  spent = v.spent;
}
stepped_view side Renew i v x = record {
  system = v.system;
  start = v.start;
  seen = seen_after side v.system Renew i x v.seen;
  looked = v.looked;
  renewed = v.renewed ++ i ∷ [];
  loads = v.loads;
  fetches = v.fetches + 1;
  moves = v.moves + one_if (is_past side x (word_after side v.system Renew i x v.seen));
  takes = v.takes;
  idle = v.idle;
  parts = v.parts;
  found = x;
  spent = v.spent;
}

-- After a step: the word found isn't back from what the seat had seen, and the seat is sound after it.
pub record Stepped (side : Side) (kind : Kind) (i : ℕ) (v : View) (x : ℕ) (w : View) : Type 0 where
  pub view : w ≡ stepped_view side kind i v x
  pub found : Before side (slice_index v.seen i) x
  pub sound : (id : TableId) → IsSound side (state_of id w)

-- the view after a swap of a mark word with 0 that found x
abbrev pub taken : View → ℕ → View
taken v x = record v { takes = v.takes + 1; idle = idle_after x v.idle }

-- after a load that changes no view
pub record Learned (side : Side) (v w : View) : Type 0 where
  pub view : w ≡ v
  pub sound : (id : TableId) → IsSound side (state_of id w)

-- a seat's own vector and counts are those of its view, which isn't spent; its count of takes stands still at the end of its type
pub record IsHeld (side : Side) (id : TableId) (v : View) (seen : List ℕ) (moves takes : ℕ) : Type 0 where
  pub same_seen : seen ≡ v.seen
  pub same_moves : moves ≡ v.moves
  pub same_takes : takes ≡ min v.takes (2 ^ 64 - 1)
  pub unspent : v.spent ≡ false
  pub sound : IsSound side (state_of id v)

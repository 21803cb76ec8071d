-- Ceil tables: their words fall from a start towards the greatest vector.
use Rattle.std.specs.Prelude.{◌≡◌, ℕ, ◌-◌, ◌<◌, ◌≤◌, List, length, sum_by}
use Rattle.std.specs.List.{zip}
use Rattle.relax_system.specs.declared.points.Point.{Point}
use Rattle.relax_system.specs.Means.{AtMost, InBoxes, IsPostFixed}
use Rattle.relax_system.specs.Extremal.{IsGreatest}
use Rattle.relax_table.specs.Seats.{SeatState, CountsOn}

-- a vector of the boxes that is at least each post-fixed vector of the boxes, for a system that has a point
pub record IsCeilStart (points : List Point) (start : List ℕ) : Type 0 where
  pub some : 0 < length points
  pub in_boxes : InBoxes points start
  pub above : (u : List ℕ) → InBoxes points u → IsPostFixed points u → AtMost u start

-- how much the entries fall from the one vector to the other, all together
abbrev pub fall : List ℕ → List ℕ → ℕ
fall u v = sum_by (λ e. e.0 - e.1) (zip u v)

-- The start lies in the boxes. What a ceil seat has seen lies in the boxes, is at most the start and at least each post-fixed vector of the boxes.
-- Its lowers are at most the fall from the start to the greatest vector.
pub record IsAboveGreatest (s : SeatState) : Type 0 where
  pub start_boxes : InBoxes s.system s.start
  pub in_boxes : InBoxes s.system s.seen
  pub from_start : AtMost s.seen s.start
  pub above : (u : List ℕ) → InBoxes s.system u → IsPostFixed s.system u → AtMost u s.seen
  pub lowers : (v : List ℕ) → IsGreatest s.system v → s.moves ≤ fall s.start v

-- A call left the seat at its table, no count fell, no entry that it has seen rose, and what holds of a ceil seat holds.
pub record Falls (old new : SeatState) : Type 0 where
  pub same_table : new.table ≡ old.table
  pub same_system : new.system ≡ old.system
  pub same_start : new.start ≡ old.start
  pub counts : CountsOn old new
  pub not_higher : AtMost new.seen old.seen
  pub above_greatest : IsAboveGreatest new

-- Floor tables: their words rise from a start towards the least vector.
use Rattle.std.specs.Prelude.{◌≡◌, ℕ, ◌-◌, ◌<◌, ◌≤◌, List, length, sum_by}
use Rattle.std.specs.List.{zip}
use Rattle.relax_system.specs.declared.points.Point.{Point}
use Rattle.relax_system.specs.Means.{AtMost, InBoxes, IsPreFixed}
use Rattle.relax_system.specs.Extremal.{IsLeast}
use Rattle.relax_table.specs.Seats.{SeatState, CountsOn}

-- a vector of the boxes that is at most each pre-fixed vector of the boxes, for a system that has a point
pub record IsFloorStart (points : List Point) (start : List ℕ) : Type 0 where
  pub some : 0 < length points
  pub in_boxes : InBoxes points start
  pub below : (u : List ℕ) → InBoxes points u → IsPreFixed points u → AtMost start u

-- how much the entries rise from the one vector to the other, all together
abbrev pub rise : List ℕ → List ℕ → ℕ
rise u v = sum_by (λ e. e.1 - e.0) (zip u v)

-- The start lies in the boxes. What a floor seat has seen lies in the boxes, is at least the start and at most each pre-fixed vector of the boxes.
-- Its raises are at most the rise from the start to the least vector.
pub record IsBelowLeast (s : SeatState) : Type 0 where
  pub start_boxes : InBoxes s.system s.start
  pub in_boxes : InBoxes s.system s.seen
  pub from_start : AtMost s.start s.seen
  pub below : (u : List ℕ) → InBoxes s.system u → IsPreFixed s.system u → AtMost s.seen u
  pub raises : (v : List ℕ) → IsLeast s.system v → s.moves ≤ rise s.start v

-- A call left the seat at its table, no count fell, no entry that it has seen fell, and what holds of a floor seat holds.
pub record Rises (old new : SeatState) : Type 0 where
  pub same_table : new.table ≡ old.table
  pub same_system : new.system ≡ old.system
  pub same_start : new.start ≡ old.start
  pub counts : CountsOn old new
  pub not_lower : AtMost old.seen new.seen
  pub below_least : IsBelowLeast new

-- The marks of a new table, what a take leaves, and what a seat did along a chase.
use Rattle.std.specs.Prelude.{◌≡◌, ℕ, ◌+◌, ◌-◌, ◌*◌, ◌^◌, ◌≤◌, min, zero, suc}
use Rattle.relax_system.specs.declared.side.Side.{Side}
use Rattle.relax_table.specs.Seats.{TableState, SeatState, IsSeatOf, Advances, GoesOn}

-- the mark word q of a new table of n points: all bits of the points that it stands for, and no others
abbrev pub marks_at : ℕ → ℕ → ℕ
marks_at n q = 2 ^ min (n - 64 * q) 64 - 1

-- how many takes in a row found no bit, after one more that found x
abbrev pub idle_after : ℕ → ℕ → ℕ
idle_after zero idle = idle + 1
idle_after (suc x) idle = 0

-- the same seat with one take more, which found x
abbrev pub taken_once : SeatState → ℕ → SeatState
taken_once s x = record s { takes = s.takes + 1; idle = idle_after x s.idle }

-- It made so many takes, and no more loads and fetches than that. The counter grew from first to now by these loads and fetches.
pub record IsChased (side : Side) (t : TableState) (old new : SeatState) (first now taken most : ℕ) : Type 0 where
  pub own : IsSeatOf t new
  pub advances : Advances side old new
  pub goes_on : GoesOn old new
  pub takes : new.takes ≡ old.takes + taken
  pub counted : now + (old.loads + old.fetches) ≡ first + (new.loads + new.fetches)
  pub cost : now ≤ first + most

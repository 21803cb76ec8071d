-- One sweep over a range, as the steps of a seat.
use Rattle.std.specs.Prelude.{◌≡◌, ℕ, List, ◌++◌}
use Rattle.relax_system.specs.declared.points.Point.{Point}
use Rattle.relax_table.specs.Seats.{SeatState, numbers_between, nears_between}

-- Each point from the one to before the other was relaxed once, in order: a look at each neighbour and one fetch. No mark word
-- was taken.
pub record SweepsOnce (points : List Point) (from to : ℕ) (old new : SeatState) : Type 0 where
  pub parts : new.parts ≡ old.parts
  pub looked : new.looked ≡ old.looked ++ nears_between points from to
  pub renewed : new.renewed ≡ old.renewed ++ numbers_between from to
  pub takes : new.takes ≡ old.takes

-- What is known of a seat along its looks at the neighbours of a point.
use Rattle.std.specs.Prelude.{◌≡◌, ◌≢◌, ℕ, ◌+◌, ◌≤◌, List, ◌++◌, length, map, take, Bool, MatchBool, All}
use Rattle.std.specs.List.{slice_index}
use Rattle.relax_system.specs.declared.side.Side.{Side}
use Rattle.relax_system.specs.declared.points.Near.{Near}
use Rattle.relax_system.specs.Sides.{distance}
use Rattle.relax_table.specs.Seats.{TableState, SeatState, IsSeatOf, Advances}

-- whether a vector went on, or stayed as it was
abbrev pub WentOn : Side → Bool → List ℕ → List ℕ → Type 0
WentOn side moved u v = MatchBool moved (1 ≤ distance side u v) (v ≡ u)

-- what is known after the looks at the first n neighbours of a point
pub record IsLooked (side : Side) (near : List Near) (t : TableState) (old new : SeatState) (first now n : ℕ) (moved : Bool) : Type 0 where
  pub own : IsSeatOf t new
  pub advances : Advances side old new
  pub loads : new.loads ≡ old.loads + n
  pub fetches : new.fetches ≡ old.fetches
  pub moves : new.moves ≡ old.moves
  pub looked : new.looked ≡ old.looked ++ take n (map (λ e. e.point) near)
  pub rest : (new.renewed ≡ old.renewed) × (new.parts ≡ old.parts) × (new.takes ≡ old.takes)
  pub idle : new.idle ≡ old.idle
  pub others : (j : ℕ) → All (λ e. e.point ≢ j) near → slice_index new.seen j ≡ slice_index old.seen j
  pub all : length old.seen ≡ length new.seen
  pub went : WentOn side moved old.seen new.seen
  pub steps : now ≡ first + n

-- What clauses see of a table and of a seat.
use Rattle.std.specs.Prelude.{◌≡◌, ◌≢◌, ℕ, ◌+◌, ◌-◌, ◌*◌, ◌/◌, ◌<◌, ◌≤◌, List, ◌++◌, length, map, take, drop, sum_by, All}
use Rattle.std.specs.List.{range_with_len, flat_map}
use Rattle.atomic_table.specs.Seated.{TableId}
use Rattle.relax_system.specs.declared.side.Side.{Side}
use Rattle.relax_system.specs.declared.points.Point.{Point}
use Rattle.relax_system.specs.System.{point_at, IsValid}
use Rattle.relax_system.specs.Means.{InBoxes}
use Rattle.relax_system.specs.Sides.{AllBefore, distance}
use Rattle.relax_table.specs.Ways.{IsQuietVector}

-- which table it is, its system, and the vector that it was made with
pub record TableState : Type 0 where
  pub id : TableId
  pub system : List Point
  pub start : List ℕ

-- A seat's table with its system and start, what the seat has seen, and what it did: the points whose words it loaded and
-- those whose words it fetched, each in order, how many loads and fetches these are, and the moves, which are the fetches
-- that changed a word. Then its takes, which are its swaps of mark words, and how many of them found no bit since the last that
-- found one. Then how many seats it is made of, and the word that its last load or fetch found.
pub record SeatState : Type 0 where
  pub table : TableId
  pub system : List Point
  pub start : List ℕ
  pub seen : List ℕ
  pub looked : List ℕ
  pub renewed : List ℕ
  pub loads : ℕ
  pub fetches : ℕ
  pub moves : ℕ
  pub takes : ℕ
  pub idle : ℕ
  pub parts : ℕ
  pub found : ℕ

pub record IsSeatOf (t : TableState) (s : SeatState) : Type 0 where
  pub same_table : s.table ≡ t.id
  pub same_system : s.system ≡ t.system
  pub same_start : s.start ≡ t.start

-- What holds of a seat at every moment, on either side.
pub record IsSound (side : Side) (s : SeatState) : Type 0 where
  pub valid : IsValid s.system
  pub start_boxes : InBoxes s.system s.start
  pub in_boxes : InBoxes s.system s.seen
  pub started : AllBefore side s.start s.seen
  pub first : (u : List ℕ) → IsQuietVector side s.system u → AllBefore side s.seen u
  pub paid : (u : List ℕ) → IsQuietVector side s.system u → s.moves ≤ distance side s.start u

-- no count fell
pub record CountsOn (old new : SeatState) : Type 0 where
  pub loads : old.loads ≤ new.loads
  pub fetches : old.fetches ≤ new.fetches
  pub moves : old.moves ≤ new.moves
  pub takes : old.takes ≤ new.takes

-- the one list is a front of the other
abbrev pub IsFront : List ℕ → List ℕ → Type 0
IsFront front whole = (rest : List ℕ) × (whole ≡ front ++ rest)

-- It is still made of as many seats, its new steps come after those that it had made, and it took no mark word.
pub record Continues (old new : SeatState) : Type 0 where
  pub parts : new.parts ≡ old.parts
  pub looked : IsFront old.looked new.looked
  pub renewed : IsFront old.renewed new.renewed
  pub takes : new.takes ≡ old.takes

-- It is still made of as many seats, and its new steps come after those that it had made.
pub record GoesOn (old new : SeatState) : Type 0 where
  pub parts : new.parts ≡ old.parts
  pub looked : IsFront old.looked new.looked
  pub renewed : IsFront old.renewed new.renewed

-- how many mark words the points of a table have, with a bit for each
abbrev pub mark_words : ℕ → ℕ
mark_words n = (n + 63) / 64

-- Its takes grew by whole passes over the mark words from the one number to before the other: by one pass at least where one is
-- allowed, and by no more than are allowed. Where it made fewer than are allowed, its last pass found no bit. Of its last two passes
-- one found a bit.
pub record TakesPasses (passes from to : ℕ) (old new : SeatState) : Type 0 where
  pub done : ℕ
  pub takes : new.takes ≡ old.takes + done * (to - from)
  pub most : done ≤ passes
  pub some : 1 ≤ passes → 1 ≤ done
  pub ends : done < passes → to - from ≤ new.idle
  pub goes : 2 ≤ done → new.idle < 2 * (to - from)

-- the numbers from the one to before the other
abbrev pub numbers_between : ℕ → ℕ → List ℕ
numbers_between from to = range_with_len from (to - from)

-- the numbers of a point's neighbours, one for each entry
abbrev pub near_numbers : List Point → ℕ → List ℕ
near_numbers points i = map (λ n. n.point) (point_at points i).near

-- the neighbours of these points, in order
abbrev pub nears_between : List Point → ℕ → ℕ → List ℕ
nears_between points from to = flat_map (near_numbers points) (numbers_between from to)

-- Each point from the one to before the other was first relaxed once, in order: a look at each neighbour and one fetch. Perhaps
-- more was done then. The seat is still made of as many seats.
pub record BeginsWithSweep (points : List Point) (from to : ℕ) (old new : SeatState) : Type 0 where
  pub parts : new.parts ≡ old.parts
  pub looked : IsFront (old.looked ++ nears_between points from to) new.looked
  pub renewed : IsFront (old.renewed ++ numbers_between from to) new.renewed

-- A call left the seat at its table, with no entry back on its way.
pub record Advances (side : Side) (old new : SeatState) : Type 0 where
  pub same_table : new.table ≡ old.table
  pub same_system : new.system ≡ old.system
  pub same_start : new.start ≡ old.start
  pub counts : CountsOn old new
  pub further : AllBefore side old.seen new.seen
  pub sound : IsSound side new

-- the points from the one number to the other, and the entries of their neighbours
abbrev pub sweep_steps : List Point → ℕ → ℕ → ℕ
sweep_steps points from to = sum_by (λ p. length p.near + 1) (take (to - from) (drop from points))

-- no entry of this point is among the neighbours of the point i
abbrev pub IsNoNeighbour : List Point → ℕ → ℕ → Type 0
IsNoNeighbour points i j = All (λ n. n.point ≢ j) (point_at points i).near

-- The choices of each segment from left to right, and their places.
use Rattle.std.specs.Prelude.{◌≡◌, ◌≢◌, ℕ, ◌-◌, ◌/◌, ◌<◌, ◌≤◌, ◌==◌, min, List, [], length, drop, map, sum, slice_index_or, Vec, ℤ, pos, ◌+ℤ◌, ◌-ℤ◌, unsigned_abs}
use Rattle.std.specs.declared.alloc.Global.{Global}
use Rattle.std.specs.declared.cmp.Ordering.{Ordering}
use Rattle.std.specs.Ordering.{nat_cmp, int_cmp, ordering_then}
use Rattle.std.specs.List.{filter}
use Rattle.std.specs.List.Sorted.{IsPermutation, IsSorted}
use Rattle.row_space.specs.declared.parts.Segment.{Segment}
use Rattle.row_space.specs.Values.{segment_at}
use Rattle.row_legal.specs.declared.parts.Place.{Place}
use Rattle.row_legal.specs.declared.picking.Choice.{Choice}
use Rattle.row_legal.specs.Ranges.{IsNear}
use Rattle.row_legal.specs.Line.{IsFirst}
use Rattle.row_legal.specs.Places.{quotient, place_at}
use Rattle.row_legal.specs.Forms.Choices.{choice_at, occupied}

-- from left to right: by the fields as they stand
abbrev pub choice_order : Choice → Choice → Ordering
choice_order a b = ordering_then (int_cmp a.x b.x) (ordering_then (nat_cmp a.cell b.cell) (ordering_then (nat_cmp a.segment b.segment) (nat_cmp a.sites b.sites)))

-- these choices from left to right
pub record IsSortOf (choices row : List Choice) : Type 0 where
  pub all : IsPermutation choices row
  pub sorted : IsSorted choice_order row

-- the choices of a segment
abbrev pub choices_at : List Choice → ℕ → List Choice
choices_at choices s = filter (λ choice. choice.segment == s) choices

-- past the end there is no choice
abbrev pub row_at : List (Vec Choice Global) → ℕ → List Choice
row_at rows s = slice_index_or (map (λ row. row.items) rows) s []

-- each choice has a segment, and each cell one choice; the choices of a segment fit
pub record AreGoodChoices (segments : List Segment) (choices : List Choice) : Type 0 where
  pub there : (i : ℕ) → i < length choices → (choice_at choices i).segment < length segments
  pub near : (i : ℕ) → i < length choices → IsNear (choice_at choices i).x
  pub cells : (i : ℕ) → i < length choices → (choice_at choices i).cell < length choices
  pub apart : (i j : ℕ) → i < j → j < length choices → (choice_at choices i).cell ≢ (choice_at choices j).cell
  pub fits : (s : ℕ) → s < length segments → occupied choices s ≤ (segment_at segments s).sites

-- the site of a segment that is nearest to a wish, and 0 left of it
abbrev pub nearest_site : ℤ → Segment → ℤ → ℕ
nearest_site pitch segment x = quotient ((x -ℤ segment.x) +ℤ pos (unsigned_abs pitch / 2)) (unsigned_abs pitch)

abbrev pub desires_of : ℤ → Segment → List Choice → List ℕ
desires_of pitch segment row = map (λ choice. nearest_site pitch segment choice.x) row

abbrev pub widths_of : List Choice → List ℕ
widths_of row = map (λ choice. choice.sites) row

-- the place of the cell at i of a segment's row
pub record IsPlaceIn (pitch : ℤ) (own : Segment) (s : ℕ) (row : List Choice) (i : ℕ) (place : Place) : Type 0 where
  pub segment : place.segment ≡ s
  pub earliest : ℕ
  pub is_earliest : IsFirst (desires_of pitch own row) (widths_of row) i earliest
  pub site : place.site ≡ min earliest (own.sites - sum (drop i (widths_of row)))

-- the cells of a segment have their places
pub record IsRowPlaced (pitch : ℤ) (segments : List Segment) (choices : List Choice) (places : List Place) (s : ℕ) : Type 0 where
  pub row : List Choice
  pub is_row : IsSortOf (choices_at choices s) row
  pub each : (i : ℕ) → i < length row → IsPlaceIn pitch (segment_at segments s) s row i (place_at places (choice_at row i).cell)

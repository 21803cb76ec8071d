-- What holds of segments that cells may be put on.
use Rattle.std.specs.Prelude.{ℕ, ◌<◌, ◌^◌, List, length, ℤ, pos, neg_ℤ, ◌+ℤ◌, ◌*ℤ◌, ◌≤ℤ◌}
use Rattle.row_space.specs.declared.parts.Segment.{Segment}
use Rattle.row_space.specs.Values.{segment_at}

-- sites at a distance; the row's y and both ends lie within 1,000,000 units
pub record IsGoodSegment (pitch : ℤ) (segment : Segment) : Type 0 where
  pub spaced : pos 1 ≤ℤ pitch
  pub low : neg_ℤ (pos (10 ^ 12)) ≤ℤ segment.y
  pub high : segment.y ≤ℤ pos (10 ^ 12)
  pub left : neg_ℤ (pos (10 ^ 12)) ≤ℤ segment.x
  pub right : (segment.x +ℤ pos segment.sites *ℤ pitch) ≤ℤ pos (10 ^ 12)

abbrev pub AreGoodSegments : ℤ → List Segment → Type 0
AreGoodSegments pitch segments = (s : ℕ) → s < length segments → IsGoodSegment pitch (segment_at segments s)

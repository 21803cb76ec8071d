-- What holds of the segments of a design.
use Rattle.std.specs.Prelude.{◌≡◌, ℕ, ◌+◌, ◌-◌, ◌<◌, ◌≤◌, false, length, pos, ◌+ℤ◌, ◌*ℤ◌}
use Rattle.book_design.specs.Values.{DesignValue}
use Rattle.book_design.specs.Points.{node_value_at}
use Rattle.book_design.specs.WellFormed.{subrow_at}
use Rattle.row_space.specs.declared.parts.Segment.{Segment}
use Rattle.row_space.specs.Values.{segment_at}
use Rattle.row_space.specs.Rectangles.{share_area, blocks, segment_rectangle}
use Rattle.row_space.specs.Runs.{is_free, segments_of}

-- the sites of the segment are sites of a subrow, no node stands in their way, and the sites of the subrow beside them aren't free
pub record IsClear (design : DesignValue) (segment : Segment) : Type 0 where
  pub subrow : ℕ
  pub there : subrow < length design.subrows
  pub from : ℕ
  pub left : segment.x ≡ (subrow_at design.subrows subrow).x +ℤ pos from *ℤ design.pitch
  pub lower : segment.y ≡ (subrow_at design.subrows subrow).y
  pub within : from + segment.sites ≤ (subrow_at design.subrows subrow).sites
  pub some : 0 < segment.sites
  pub free : (i : ℕ) → i < length design.nodes → blocks (node_value_at design.nodes i) (segment_rectangle design segment) ≡ false
  pub before : 0 < from → is_free design (subrow_at design.subrows subrow) (from - 1) ≡ false
  pub behind : from + segment.sites < (subrow_at design.subrows subrow).sites → is_free design (subrow_at design.subrows subrow) (from + segment.sites) ≡ false

-- The segments of a design are clear, and no two share area.
pub record AreClear (design : DesignValue) : Type 0 where
  pub each : (s : ℕ) → s < length (segments_of design).segments → IsClear design (segment_at (segments_of design).segments s)
  pub apart : (s t : ℕ) → s < t → t < length (segments_of design).segments
      → share_area (segment_rectangle design (segment_at (segments_of design).segments s)) (segment_rectangle design (segment_at (segments_of design).segments t)) ≡ false

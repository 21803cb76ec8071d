-- The sweep over the marks of a subrow.
use Rattle.std.specs.Prelude.{◌≡◌, ℕ, ◌-◌, ◌≤◌, nat_lt, List, ◌++◌, if◌then◌else◌, pos, neg_ℤ, ◌+ℤ◌, ◌*ℤ◌, ◌≤ℤ◌}
use Rattle.book_text.specs.declared.decimal.TheConstants.{MOST_MICRO}
use Rattle.book_design.specs.declared.rules.TheConstants.{ROWS_END}
use Rattle.book_design.specs.declared.parts.Subrow.{Subrow}
use Rattle.book_design.specs.Values.{DesignValue}
use Rattle.row_space.specs.declared.parts.Segment.{Segment}
use Rattle.row_space.specs.Values.{SegmentsValue, with_segment}

-- the segments with more behind them
pub record Adds (old new : SegmentsValue) (more : List Segment) : Type 0 where
  pub pitch : new.pitch ≡ old.pitch
  pub segments : new.segments ≡ old.segments ++ more

-- the sites from one up to another
abbrev pub run_segment : DesignValue → Subrow → ℕ → ℕ → Segment
run_segment design subrow from end = record { x = subrow.x +ℤ pos from *ℤ design.pitch; y = subrow.y; sites = end - from }

abbrev pub with_run : DesignValue → Subrow → ℕ → ℕ → SegmentsValue → SegmentsValue
with_run design subrow from end old = if nat_lt from end then with_segment old (run_segment design subrow from end) else old

-- the subrow is within range, and has so many sites
pub record IsGoodRun (design : DesignValue) (subrow : Subrow) (end : ℕ) : Type 0 where
  pub spaced : pos 1 ≤ℤ design.pitch
  pub left : neg_ℤ (pos MOST_MICRO) ≤ℤ subrow.x
  pub right : (subrow.x +ℤ pos subrow.sites *ℤ design.pitch) ≤ℤ ROWS_END
  pub within : end ≤ subrow.sites

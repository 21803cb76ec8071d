use Rattle.std.proofs.Common.{◌≡◌, ◌-◌, ◌<◌, ◌≤◌, ◌++◌, false, length}
use Rattle.row_space.specs.Runs.{is_free, segments_in}
use Rattle.row_space.proofs.Sweeping.{Passed, segments_from}
use Rattle.row_space.proofs.runs.add_runs.Given as goal

-- the runs up to a site are found, which no free site stands before, and the marks up to a place end before it
abbrev pub invariant-marks : goal.invariant-marks
invariant-marks l = record {
  from : l.from ≤ l.subrow.sites;
  edge : 0 < l.from → is_free l.design l.subrow (l.from - 1) ≡ false;
  passed : Passed l.marks l.number l.begin l.at l.from;
  pitch : l.found.pitch ≡ l.fn.found.pitch;
  runs : l.found.segments ++ segments_from l.design l.subrow l.from (l.subrow.sites - l.from) ≡ l.fn.found.segments ++ segments_in l.design l.subrow;
}

abbrev pub decreases-marks : goal.decreases-marks
decreases-marks l = length l.marks - l.at

use Rattle.std.proofs.Common.{◌≡◌, take}
use Rattle.std.specs.List.{flat_map}
use Rattle.row_space.specs.Runs.{segments_in}
use Rattle.row_space.specs.Forms.Marks.{Parts}
use Rattle.row_space.proofs.runs.segments.Given as goal

-- the segments of the first subrows, and where the marks of the next begin
abbrev pub invariant-loop-number : goal.invariant-loop-number
invariant-loop-number l = record {
  parts : Parts l.marks.items l.number l.at;
  pitch : l.found.pitch ≡ l.design.pitch;
  runs : l.found.segments ≡ flat_map (segments_in l.design) (take l.number l.design.subrows);
}

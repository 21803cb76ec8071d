use Rattle.std.proofs.Common.{◌≡◌, map}
use Rattle.std.specs.List.{range_with_len}
use Rattle.book_files.specs.Entries.{place_entries}
use Rattle.book_design.specs.Values.{node_values}
use Rattle.proud_top.specs.Placement.{place_of}
use Rattle.proud_top.proofs.placement.lines.Given as goal

abbrev pub invariant-loop-i : goal.invariant-loop-i
invariant-loop-i l = place_entries l.lines.items ≡ map (place_of (node_values l.nodes) l.corners) (range_with_len 0 l.i)

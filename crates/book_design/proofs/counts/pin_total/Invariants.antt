use Rattle.std.proofs.Common.{◌≡◌, take}
use Rattle.book_files.specs.Blocks.{net_entries}
use Rattle.book_files.specs.Ranges.{pin_count}
use Rattle.book_design.proofs.counts.pin_total.Given as goal

abbrev pub invariant-loop-net : goal.invariant-loop-net
invariant-loop-net l = l.total ≡ pin_count (net_entries (take l.net-index l.nets))

use Rattle.std.proofs.Common.{◌≡◌, length, take}
use Rattle.std.specs.List.{sum_by}
use Rattle.book_design.specs.Nets.{net_values}
use Rattle.wire_report.proofs.report.pin_count.Given as goal

abbrev pub invariant-loop-net : goal.invariant-loop-net
invariant-loop-net l = l.pins ≡ sum_by (λ net. length net.pins) (take l.net-index (net_values l.nets))

use Rattle.std.proofs.Common.{length, ap, arith}
use Rattle.std.proofs.lemmas.List.{length-map}
use Rattle.book_design.specs.Values.{node_value}
use Rattle.wire_report.proofs.Terminals.{two_kinds}
use Rattle.wire_report.proofs.report.terminal_count.Goals as goal

pub returns : goal.returns
returns c = omega (arith, two_kinds c.args.design.now.nodes, c.points.ensures.count, ap length c.nodes.ensures.nodes, length-map c.nodes.result.now node_value)

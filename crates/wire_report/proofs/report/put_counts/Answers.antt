use Rattle.std.proofs.Common.{◌∙◌}
use Rattle.wire_report.proofs.Reporting.{counts_put, nets_counted, pins_counted}
use Rattle.wire_report.proofs.report.put_counts.Goals as goal

pub returns : goal.returns
returns c =
    let design = c.args.design.now in
    counts_put design c.args.text.now.items c.put_count.new.text.items c.put_count-2.new.text.items c.put_count-3.new.text.items c.put_count-4.new.text.items c.push.new.self.items
    c.points.result c.terminal_count.result _ c.from.result
    c.in_ok-put_count.ensures c.in_ok-put_count-2.ensures c.in_ok-put_count-3.ensures c.in_ok-put_count-4.ensures c.in_ok-push.ensures.items
    c.points.ensures.count c.terminal_count.ensures (nets_counted c.nets.result.now design c.nets.ensures.nets)
    (c.from.ensures ∙ pins_counted c.nets-2.result.now design c.pin_count.result c.nets-2.ensures.nets c.pin_count.ensures)

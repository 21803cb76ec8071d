use Rattle.wire_report.proofs.Reporting.{wire_put}
use Rattle.wire_report.proofs.report.put_wire.Goals as goal

pub returns : goal.returns
returns c =
    wire_put c.args.text.now.items c.put_count.new.text.items c.put_fraction.new.text.items c.push.new.self.items c.args.wire
    c.in_ok-put_count.ensures c.in_ok-put_fraction.ensures c.in_ok-push.ensures.items

use Rattle.wire_report.proofs.Reporting.{levels_put}
use Rattle.wire_report.proofs.report.put_levels.Goals as goal

pub returns : goal.returns
returns c =
    levels_put c.args.text.now.items c.put_count.new.text.items c.put_count-2.new.text.items c.push.new.self.items c.args.levels c.args.gap c.from.result c.from-2.result
    c.from.ensures c.from-2.ensures
    c.in_ok-put_count.ensures c.in_ok-put_count-2.ensures c.in_ok-push.ensures.items

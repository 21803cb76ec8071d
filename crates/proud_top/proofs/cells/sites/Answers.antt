use Rattle.std.proofs.Common.{arith}
use Rattle.proud_top.proofs.Wishing.{sites_more, sites_whole}
use Rattle.proud_top.proofs.cells.sites.Goals as goal

pub loop-point-preserved : goal.loop-point-preserved
loop-point-preserved c =
    sites_more c.args.design.now c.loop-point.point c.loop-point.sites.items c.push.new.self.items _ c.loop-point.invariant c.in_ok-push.ensures.items c.sites_of.ensures.sites

pub returns-clause-sites : goal.returns-clause-sites
returns-clause-sites c = sites_whole c.args.design.now c.loop-point.point c.loop-point.sites.items (omega arith) c.loop-point.invariant

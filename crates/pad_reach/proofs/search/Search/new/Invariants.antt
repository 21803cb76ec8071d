use Rattle.pad_reach.proofs.Searching.{IsBegun}
use Rattle.pad_reach.proofs.search.Search.new.Given as goal

abbrev pub invariant-loop-i : goal.invariant-loop-i
invariant-loop-i g l = IsBegun (g.W.Web.joints l.web) l.i l.search.found.items l.search.queue.items

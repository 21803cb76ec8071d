use Rattle.std.proofs.Common.{◌-◌, length}
use Rattle.pad_reach.specs.Forms.Search.{IsSearch}
use Rattle.pad_reach.proofs.Searching.{IsVisit}
use Rattle.pad_reach.proofs.search.spread.Given as goal

abbrev pub invariant-loop-next : goal.invariant-loop-next
invariant-loop-next g l =
    IsSearch (g.W.Web.joints l.web) (length (g.W.Web.joints l.web)) l.search.found.items l.search.queue.items l.next

abbrev pub decreases-loop-next : goal.decreases-loop-next
decreases-loop-next g l = length (g.W.Web.joints l.web) - l.next

abbrev pub invariant-loop-far : goal.invariant-loop-far
invariant-loop-far g l =
    IsVisit (g.W.Web.joints l.web) l.search.found.items l.search.queue.items l.next l.near l.distance l.far-items l.far-index

use Rattle.std.proofs.Common.{◌≡◌, ℕ, ◌+◌, ◌<◌, length, get_or, take}
use Rattle.pad_reach.specs.Chain.{joint_at}
use Rattle.pad_reach.specs.Forms.InNeighbours.{count_in}
use Rattle.pad_reach.proofs.in_neighbours.count_entries.Given as goal

abbrev pub invariant-loop-k : goal.invariant-loop-k
invariant-loop-k g l =
    (q : ℕ) → q < length l.counts → get_or l.counts q 0 ≡ get_or l.fn.counts q 0 + count_in q (take l.k (joint_at (g.W.Web.joints l.web) l.i).near)

use Rattle.std.proofs.Common.{◌≡◌, ℕ, ◌^◌, ◌<◌, length, get_or, take}
use Rattle.pad_reach.specs.Forms.InNeighbours.{entries_to, entries}
use Rattle.pad_reach.proofs.in_neighbours.find_ends.Given as goal

abbrev pub invariant-loop-i : goal.invariant-loop-i
invariant-loop-i g l = record {
  counted : (q : ℕ) → q < length l.ends → get_or l.ends q 0 ≡ entries_to q (take l.i (g.W.Web.joints l.web));
  sum : l.total ≡ entries (take l.i (g.W.Web.joints l.web));
  fits : l.total < 2 ^ 64;
}

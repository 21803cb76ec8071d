use Rattle.std.proofs.Common.{◌≡◌, map, take, Some}
use Rattle.pad_reach.proofs.search.reach.Given as goal

abbrev pub invariant-loop-i : goal.invariant-loop-i
invariant-loop-i g l = map Some l.entries.items ≡ take l.i l.entry-items

use Rattle.std.proofs.Common.{◌≡◌, ◌^◌, ◌<◌, length, sum}
use Rattle.step_bench.proofs.cells.areas.Given as goal

abbrev pub invariant-loop-p : goal.invariant-loop-p
invariant-loop-p l = record {
  long : length l.areas.items ≡ l.p;
  sum : l.total ≡ sum l.areas.items;
  fits : l.total < 2 ^ 64;
}

use Rattle.std.proofs.Common.{◌≡◌, ◌^◌, ◌<◌, take, sum}
use Rattle.level_tests.proofs.cuts.is_light.Given as goal

abbrev pub invariant-loop-area : goal.invariant-loop-area
invariant-loop-area l = record {
  sum : l.total ≡ sum (take l.area-index l.areas);
  fits : l.total < 2 ^ 64;
}

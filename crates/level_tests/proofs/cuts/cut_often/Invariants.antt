use Rattle.std.proofs.Common.{length}
use Rattle.area_cut.specs.Regions.{ArePartition}
use Rattle.level_tests.proofs.cuts.cut_often.Given as goal

abbrev pub invariant-loop : goal.invariant-loop
invariant-loop l = ArePartition (length l.areas) l.regions

use Rattle.std.proofs.Common.{length}
use Rattle.relax_system.specs.declared.valid.TheConstants.{MOST_COORDINATE}
use Rattle.area_cut.specs.Regions.{AreShares}
use Rattle.step_bench.proofs.levels.cut_often.Given as goal

abbrev pub invariant-loop : goal.invariant-loop
invariant-loop l = AreShares (length l.areas) MOST_COORDINATE l.regions

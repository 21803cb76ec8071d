use Rattle.std.proofs.Common.{ℕ, List, length, sym, subst}
use Rattle.relax_system.specs.declared.valid.TheConstants.{MOST_COORDINATE}
use Rattle.area_cut.specs.declared.region.Region.{Region}
use Rattle.area_cut.specs.Regions.{ArePartition, AreShares}
use Rattle.step_bench.proofs.levels.cut_often.Goals as goal

pub loop-preserved : goal.loop-preserved
loop-preserved c = subst (λ (rs : List Region). AreShares (length c.args.areas.now) MOST_COORDINATE rs) (sym c.in_ok-regions-2.ensures.parts)
    (c.parts_share.ensures (length c.args.areas.now) MOST_COORDINATE c.args.areas.now c.args.xs.now c.args.ys.now c.loop.regions c.loop.invariant)

pub returns-clause-points : goal.returns-clause-points
returns-clause-points c = subst (λ (n : ℕ). ArePartition n c.loop.regions) c.requires.all c.loop.invariant.partition

use Rattle.relax_system.specs.declared.side.Side.TheVariants.{Ceil}
use Rattle.relax_system.proofs.SideMeans.{mean-low, mean-high}
use Rattle.relax_system.proofs.system.System.ceil_mean.Goals as goal

pub returns-clause-low : goal.returns-clause-low
returns-clause-low c = rw c.mean.ensures.mean (mean-low Ceil c.args.self.now c.args.i c.args.v.now c.mean.ensures.valid c.requires.point c.requires.boxes)

pub returns-clause-high : goal.returns-clause-high
returns-clause-high c = rw c.mean.ensures.mean (mean-high Ceil c.args.self.now c.args.i c.args.v.now c.mean.ensures.valid c.requires.point c.requires.boxes)

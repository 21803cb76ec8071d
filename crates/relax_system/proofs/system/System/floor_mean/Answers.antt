use Rattle.relax_system.specs.declared.side.Side.TheVariants.{Floor}
use Rattle.relax_system.proofs.SideMeans.{mean-low, mean-high}
use Rattle.relax_system.proofs.system.System.floor_mean.Goals as goal

pub returns-clause-low : goal.returns-clause-low
returns-clause-low c = rw c.mean.ensures.mean (mean-low Floor c.args.self.now c.args.i c.args.v.now c.mean.ensures.valid c.requires.point c.requires.boxes)

pub returns-clause-high : goal.returns-clause-high
returns-clause-high c = rw c.mean.ensures.mean (mean-high Floor c.args.self.now c.args.i c.args.v.now c.mean.ensures.valid c.requires.point c.requires.boxes)

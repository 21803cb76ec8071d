use Rattle.relax_system.specs.declared.side.Side.TheVariants.{Floor}
use Rattle.relax_system.proofs.Extremes.{extremal_there, extremal_one, extremal_fixed}
use Rattle.relax_system.proofs.Sided.{IsLeast-from_extremal, extremal_from_IsLeast}
use Rattle.relax_system.proofs.laws.least_vector.Goals as goal

pub returns-clause-there : goal.returns-clause-there
returns-clause-there c = λ points valid. let w = extremal_there Floor points valid in (w.0, IsLeast-from_extremal w.1)

pub returns-clause-one : goal.returns-clause-one
returns-clause-one c = λ points u v valid h k. extremal_one Floor points u v (extremal_from_IsLeast h) (extremal_from_IsLeast k)

pub returns-clause-fixed : goal.returns-clause-fixed
returns-clause-fixed c = λ points v valid h. extremal_fixed Floor points v valid (extremal_from_IsLeast h)

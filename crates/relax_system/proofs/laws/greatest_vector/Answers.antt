use Rattle.relax_system.specs.declared.side.Side.TheVariants.{Ceil}
use Rattle.relax_system.proofs.Extremes.{extremal_there, extremal_one, extremal_fixed}
use Rattle.relax_system.proofs.Sided.{IsGreatest-from_extremal, extremal_from_IsGreatest}
use Rattle.relax_system.proofs.laws.greatest_vector.Goals as goal

pub returns-clause-there : goal.returns-clause-there
returns-clause-there c = λ points valid. let w = extremal_there Ceil points valid in (w.0, IsGreatest-from_extremal w.1)

pub returns-clause-one : goal.returns-clause-one
returns-clause-one c = λ points u v valid h k. extremal_one Ceil points u v (extremal_from_IsGreatest h) (extremal_from_IsGreatest k)

pub returns-clause-fixed : goal.returns-clause-fixed
returns-clause-fixed c = λ points v valid h. extremal_fixed Ceil points v valid (extremal_from_IsGreatest h)

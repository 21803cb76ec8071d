use Rattle.relax_system.proofs.Residuals.{ordered}
use Rattle.relax_system.proofs.Enclosing.{between}
use Rattle.relax_system.proofs.laws.residuals_enclose.Goals as goal

pub returns-clause-ordered : goal.returns-clause-ordered
returns-clause-ordered c = λ points lo hi valid chains low _ lower upper. ordered points lo hi valid chains low lower upper

pub returns-clause-encloses : goal.returns-clause-encloses
returns-clause-encloses c = λ points lo hi d z valid chains _ _ lower upper exact. between points lo hi d z valid chains lower upper exact

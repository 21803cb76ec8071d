use Rattle.relax_system.proofs.Halvings.{IsValid-halved, halved-none, doubled_before, cascade_within}
use Rattle.relax_system.proofs.laws.halving.Goals as goal

pub returns-clause-valid : goal.returns-clause-valid
returns-clause-valid c = IsValid-halved

pub returns-clause-whole : goal.returns-clause-whole
returns-clause-whole c = halved-none

pub returns-clause-before : goal.returns-clause-before
returns-clause-before c = doubled_before

pub returns-clause-way : goal.returns-clause-way
returns-clause-way c = cascade_within

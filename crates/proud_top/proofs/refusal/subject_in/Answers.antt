use Rattle.proud_top.proofs.Naming.{named_some}
use Rattle.proud_top.proofs.refusal.subject_in.Goals as goal

pub returns-in-Some : goal.returns-in-Some
returns-in-Some c = rw c.in-Some.is (named_some c.in-Some.inputs.now c.args.refusal c.subject_among.result c.subject_among.ensures)

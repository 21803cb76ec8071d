use Rattle.std.proofs.Common.{Err, subst}
use Rattle.proud_top.specs.declared.stop.Stop.{Stop}
use Rattle.proud_top.specs.Forms.Stops.{Designs}
use Rattle.proud_top.proofs.Once.{OneAnswer}
use Rattle.proud_top.proofs.Naming.{never_refused}
use Rattle.proud_top.proofs.inputs.Inputs.sound_design.Goals as goal

pub unreachable-requires : goal.unreachable-requires
unreachable-requires c =
    let law = c.laws.ensures in
    let one : OneAnswer = record { aux = law.aux; nodes = law.nodes; nets = law.nets; wts = law.wts; pl = law.pl; scl = law.scl; schedule = law.schedule; join = law.join; network = law.network; levels = law.levels; gap = law.gap; greedy = law.greedy } in
    let D : Stop → Type 0 = λ stop. Designs c.args.self.now (Err stop) in
    never_refused one c.args.self.now c.requires.0 c.in-Err-Refused.field-0-0 c.requires.1 (subst D c.in-Err-Refused.field-0-is c.in-Err-Refused.ensures)

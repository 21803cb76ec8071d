use Rattle.proud_top.proofs.Once.{OneAnswer}
use Rattle.proud_top.proofs.Naming.{point_there, point_named}
use Rattle.proud_top.proofs.inputs.Inputs.point_subject.Goals as goal

pub subject_of_point-requires : goal.subject_of_point-requires
subject_of_point-requires c =
    let law = c.laws.ensures in
    let one : OneAnswer = record { aux = law.aux; nodes = law.nodes; nets = law.nets; wts = law.wts; pl = law.pl; scl = law.scl; schedule = law.schedule; join = law.join; network = law.network; levels = law.levels; gap = law.gap; greedy = law.greedy } in
    point_there one c.args.self.now c.in_ok-design.design c.args.point c.in_ok-design.ensures c.requires

pub returns : goal.returns
returns c = point_named c.args.self.now c.in_ok-design.design c.args.point c.subject_of_point.result c.in_ok-design.ensures c.subject_of_point.ensures

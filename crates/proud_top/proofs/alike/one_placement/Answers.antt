use Rattle.proud_top.proofs.Once.{OneAnswer}
use Rattle.proud_top.proofs.Same.{same_placement}
use Rattle.proud_top.proofs.alike.one_placement.Goals as goal

pub returns : goal.returns
returns c words words' files folder folder' other other' report report' sink sink' same known known' h k =
    let law = c.laws.ensures in
    let one : OneAnswer = record { aux = law.aux; nodes = law.nodes; nets = law.nets; wts = law.wts; pl = law.pl; scl = law.scl; schedule = law.schedule; join = law.join; network = law.network; levels = law.levels; gap = law.gap; greedy = law.greedy } in
    same_placement one c.one_request.ensures.one words words' files folder folder' other other' report report' sink sink' same known known' h k

use Rattle.std.proofs.Common.{arith}
use Rattle.std.proofs.lemmas.List.{length-map}
use Rattle.net_model.specs.Webs.{joint_of, joints_of}
use Rattle.level_run.proofs.hierarchy.levels_by.Goals as goal

pub levels-requires-clause-chains : goal.levels-requires-clause-chains
levels-requires-clause-chains c =
    let many = length-map c.args.network.now.points joint_of in
    λ p inside. c.reach_leads.ensures (joints_of c.args.network.now) c.args.reach.now p c.requires.reach (omega arith)

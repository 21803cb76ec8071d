use Rattle.std.proofs.Common.{◌≡◌, ap, ◌∙◌, arith}
use Rattle.std.proofs.lemmas.List.{take_all}
use Rattle.relax_system.specs.Halved.{halved}
use Rattle.relax_system.proofs.Halvings.{IsValid-halved}
use Rattle.relax_system.proofs.system.System.halved.Goals as goal

pub new-requires : goal.new-requires
new-requires c =
    let all : c.loop-i.points ≡ halved c.args.side c.args.shift c.args.self.now = c.loop-i.invariant ∙ ap (halved c.args.side c.args.shift) (take_all c.loop-i.i c.args.self.now (omega arith)) in
    rw all (IsValid-halved c.args.side c.args.shift c.args.self.now c.points-i-end.ensures.valid)

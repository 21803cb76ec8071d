use Rattle.std.proofs.Common.{◌≡◌, ap, ◌∙◌}
use Rattle.relax_system.specs.Halved.{halved}
use Rattle.relax_system.proofs.Halvings.{IsValid-halved}
use Rattle.relax_system.proofs.system.System.halve_anew.Goals as goal

pub are_narrow-self-inside-requires : goal.are_narrow-self-inside-requires
are_narrow-self-inside-requires c =
    let new : c.as_slice-2.result.now ≡ halved c.args.side c.args.shift c.whole.inside.points = c.as_slice-2.ensures ∙ c.halve_anew.ensures ∙ ap (halved c.args.side c.args.shift) c.as_slice.ensures in
    rw new (IsValid-halved c.args.side c.args.shift c.whole.inside.points c.whole.invariant.valid)

pub invariant_of-self : goal.invariant_of-self
invariant_of-self c =
    let new : c.halve_anew.new.self ≡ halved c.args.side c.args.shift c.whole.inside.points = c.halve_anew.ensures ∙ ap (halved c.args.side c.args.shift) c.as_slice.ensures in
    record {
      valid = rw new (IsValid-halved c.args.side c.args.shift c.whole.inside.points c.whole.invariant.valid);
      fits = rw c.as_slice-2.ensures at c.are_narrow-self-inside.ensures;
    }

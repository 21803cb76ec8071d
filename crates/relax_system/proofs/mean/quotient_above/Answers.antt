use Rattle.std.proofs.Common.{◌+◌, ap, ◌∙◌}
use Rattle.relax_system.proofs.Division.{rounded-above}
use Rattle.relax_system.proofs.mean.quotient_above.Goals as goal

pub returns : goal.returns
returns c =
    ap (λ q. c.args.low + q) c.narrow_quotient.ensures ∙ rounded-above c.args.side c.args.sum c.args.total c.args.low c.requires.positive c.requires.above

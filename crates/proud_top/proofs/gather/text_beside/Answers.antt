use Rattle.std.proofs.Common.{◌≡◌}
use Rattle.std.proofs.lemmas.Result.{err_from_is_err_and}
use Rattle.proud_top.specs.declared.stop.Stop.TheVariants.{Memory}
use Rattle.proud_top.proofs.gather.text_beside.Goals as goal

pub returns-in_err-path : goal.returns-in_err-path
returns-in_err-path g c old word names m next =
    let p = err_from_is_err_and c.from_residual.result c.from_residual.ensures.1 in
    let q : p.0 ≡ Memory = p.2 in
    rw (p.1, q) (next.below.untouched, next.below.read_faults)

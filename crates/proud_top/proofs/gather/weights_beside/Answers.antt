use Rattle.std.proofs.Common.{◌≡◌}
use Rattle.std.proofs.lemmas.Result.{err_from_is_err_and}
use Rattle.proud_top.proofs.Gathering.{weights_next}
use Rattle.proud_top.proofs.gather.weights_beside.Goals as goal

pub returns-in_err-text-in-Some : goal.returns-in_err-text-in-Some
returns-in_err-text-in-Some g c old names e below aux =
    let named = rw c.in-Some.is at e in
    let next = weights_next old _ c.args.design.now c.in-Some.name.now names named below aux in
    let stop = c.in_err-text-in-Some.field-0.0 in
    let p = err_from_is_err_and c.from_residual.result c.from_residual.ensures.1 in
    let q : p.0 ≡ stop = p.2 in
    rw (p.1, q) (c.in_err-text-in-Some.ensures old c.args.design.now names 3 next)

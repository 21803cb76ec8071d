use Rattle.std.proofs.Common.{◌∙◌, refl}
use Rattle.relax_system.proofs.Fits.{pull_wide}
use Rattle.fix_cert.proofs.Residuals.{residual_from_ceil, floor_from_residual, ceil_from_residual}
use Rattle.fix_cert.proofs.reading.read.Goals as goal

pub pull-requires-clause-fits : goal.pull-requires-clause-fits
pull-requires-clause-fits c =
    rw c.point-point.ensures.point (pull_wide c.args.system.now c.args.i c.args.lo.now c.point-point.ensures.valid c.requires.point c.requires.lo_boxed)

pub pull-requires-2-clause-fits : goal.pull-requires-2-clause-fits
pull-requires-2-clause-fits c =
    rw c.point-point.ensures.point (pull_wide c.args.system.now c.args.i c.args.hi.now c.point-point.ensures.valid c.requires.point c.requires.hi_boxed)

pub returns-in_default-residual : goal.returns-in_default-residual
returns-in_default-residual c =
    let joined = (c.point-point.ensures.valid.each c.args.i c.requires.point).joined in
    let lower = rw (c.pull.ensures, c.times.ensures, c.total_weight-total.ensures, c.point-point.ensures.point) at c.in-Some.ensures.0 in
    let failed = rw (c.times-2.ensures, c.pull-2.ensures, c.total_weight-total.ensures, c.point-point.ensures.point) at c.in_default-residual.ensures in
    (floor_from_residual _ _ _ joined lower, λ holds. failed (residual_from_ceil _ _ _ joined holds))

pub returns : goal.returns
returns c =
    let joined = (c.point-point.ensures.valid.each c.args.i c.requires.point).joined in
    let lower = rw (c.pull.ensures, c.times.ensures, c.total_weight-total.ensures, c.point-point.ensures.point) at c.in-Some.ensures in
    let upper = rw (c.times-2.ensures, c.pull-2.ensures, c.total_weight-total.ensures, c.point-point.ensures.point) at c.in-Some-residual.ensures in
    record {
      lower = floor_from_residual _ _ _ joined lower.0;
      upper = ceil_from_residual _ _ _ joined upper.0;
      gap = c.saturating_sub.ensures;
      residual = c.max.ensures ∙ rw (lower.1, upper.1) refl;
    }

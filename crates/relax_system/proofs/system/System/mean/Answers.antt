use Rattle.std.proofs.Common.{◌≡◌, refl, ◌∙◌, arith}
use Rattle.relax_system.specs.System.{point_at, total_weight}
use Rattle.relax_system.specs.Means.{pull}
use Rattle.relax_system.proofs.Fits.{pull_light, pull_wide, pull_narrow}
use Rattle.relax_system.proofs.Pulls.{pull-low}
use Rattle.relax_system.proofs.system.System.mean.Goals as goal

pub narrow_pull-pull-requires-clause-fits : goal.narrow_pull-pull-requires-clause-fits
narrow_pull-pull-requires-clause-fits c =
    let sums = pull_narrow c.args.self.now c.args.i c.args.v.now c.point-point.ensures.valid (c.is_narrow.ensures c.if-is_narrow.true) c.requires.point c.requires.boxes in
    rw (c.as_slice-near.ensures, c.point-point.ensures.point) sums

pub wide_pull-requires-clause-fits : goal.wide_pull-requires-clause-fits
wide_pull-requires-clause-fits c =
    let sums = pull_wide c.args.self.now c.args.i c.args.v.now c.point-point.ensures.valid c.requires.point c.requires.boxes in
    rw (c.as_slice-near.ensures, c.point-point.ensures.point) sums

pub wide_quotient-requires-clause-fits : goal.wide_quotient-requires-clause-fits
wide_quotient-requires-clause-fits c =
    let sums = pull_light c.args.self.now c.args.i c.args.v.now c.point-point.ensures.valid c.requires.point c.requires.boxes in
    let light = (c.point-point.ensures.valid.each c.args.i c.requires.point).light in
    let total : c.total_weight-total.result ≡ total_weight (point_at c.args.self.now c.args.i) = c.total_weight-total.ensures ∙ rw c.point-point.ensures.point (omega (arith, light)) in
    let sum : c.wide_pull.result ≡ pull (point_at c.args.self.now c.args.i) c.args.v.now = c.wide_pull.ensures ∙ rw (c.as_slice-near.ensures, c.point-point.ensures.point) refl in
    rw (total, sum) sums

pub quotient_above-requires-clause-above : goal.quotient_above-requires-clause-above
quotient_above-requires-clause-above c =
    let valid = c.point-point.ensures.valid.each c.args.i c.requires.point in
    let total : c.total_weight-total.result ≡ total_weight (point_at c.args.self.now c.args.i) = c.total_weight-total.ensures ∙ rw c.point-point.ensures.point (omega (arith, valid.light)) in
    let low = pull-low c.args.self.now c.args.i (point_at c.args.self.now c.args.i) c.args.v.now valid refl c.requires.boxes in
    let sum : c.narrow_pull-pull.result ≡ pull (point_at c.args.self.now c.args.i) c.args.v.now = c.narrow_pull-pull.ensures ∙ rw (c.as_slice-near.ensures, c.point-point.ensures.point) refl in
    rw (total, sum, c.point-point.ensures.point) low

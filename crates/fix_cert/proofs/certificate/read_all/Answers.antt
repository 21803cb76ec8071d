use Rattle.std.proofs.Common.{◌≡◌, ◌<◌, ◌-◌, ◌∙◌, length, ap, arith}
use Rattle.std.specs.List.{range_with_len}
use Rattle.relax_system.specs.Means.{InBoxes}
use Rattle.rayon.specs.Numbers.{nat_range}
use Rattle.rayon.proofs.ListFacts.{IfOk-then}
use Rattle.rayon.proofs.ToStd.{nat_range-All}
use Rattle.fix_cert.proofs.Places.{findings_in_order}
use Rattle.fix_cert.proofs.certificate.read_all.Goals as goal

pub collect-requires-clause-ready : goal.collect-requires-clause-ready
collect-requires-clause-ready g c κs within =
    let ends = c.into_par_iter.ensures in
    let points = c.args.system.now in
    let inside = nat_range-All (λ i. (i < length points) × InBoxes points c.args.lo.now × InBoxes points c.args.hi.now) 0 (length points)
    (λ i low high. (high, c.requires.lo_boxed, c.requires.hi_boxed)) in
    rw (c.map.ensures.base, c.map.ensures.f, ends.0, ends.1, c.points.ensures.count) (λ k d lt. (inside k d lt, λ y p. tt))

pub returns-clause-findings : goal.returns-clause-findings
returns-clause-findings g c =
    let ends = c.into_par_iter.ensures in
    let points = c.args.system.now in
    let whole : c.points.result - 0 ≡ length points = omega (arith, c.points.ensures.count) in
    IfOk-then c.collect.result _ _ c.collect.ensures (λ v h.
    let chain = rw (c.map.ensures.base, c.map.ensures.f) at h.1 in
    let places = chain.1 ∙ (λ i. nat_range (ends.0 i) (ends.1 i)) ∙ ap (range_with_len 0) whole in
    rw h.2 (findings_in_order points c.args.lo.now c.args.hi.now chain.0 h.0 places chain.2))

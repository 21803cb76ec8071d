use Rattle.std.proofs.Common.{◌≡◌, ap, subst, length, arith}
use Rattle.std.specs.Prelude.{Result, Ok}
use Rattle.fix_cert.specs.declared.reading.Reading.{Reading}
use Rattle.fix_cert.specs.declared.verdict.Side2.{Side2}
use Rattle.fix_cert.specs.Forms.Reading.{IsFinding}
use Rattle.fix_cert.proofs.Verdicts.{one_passed, enclosing}
use Rattle.fix_cert.proofs.certificate.check.Goals as goal

pub loop-i-preserved : goal.loop-i-preserved
loop-i-preserved g c =
    let points = c.args.system.now in
    let items = c.deref-finding-items.ensures.value in
    let findings = c.in_ok-findings.ensures.findings in
    let found = findings.each c.loop-i.i (Ok (record { gap = 0; residual = 0 })) (omega (arith, c.loop-i-test.true, ap length items, findings.many)) in
    let P : Result Reading Side2 → Type 0 = IsFinding points c.args.lo.now c.args.hi.now c.loop-i.i in
    let reading = subst P (rw items at c.in-Ok.is) found in
    rw (c.max-gap.ensures, c.max-worst.ensures) (one_passed points c.args.lo.now c.args.hi.now c.loop-i.i c.loop-i.gap c.loop-i.worst c.in-Ok.reading c.loop-i.invariant reading)

pub returns-clause-verdict : goal.returns-clause-verdict
returns-clause-verdict g c =
    let findings = c.in_ok-findings.ensures.findings in
    let all : c.loop-i.i ≡ length c.args.system.now = omega (arith, c.loop-i.auto.i-end, c.loop-i-test.false, ap length c.deref-finding-items.ensures.value, findings.many) in
    rw c.from.ensures (enclosing c.args.system.now c.args.lo.now c.args.hi.now c.loop-i.i c.loop-i.gap c.loop-i.worst c.in_ok-findings.ensures.valid c.loop-i.invariant all)

pub returns-clause-enclosure : goal.returns-clause-enclosure
returns-clause-enclosure g c = λ chains.
    let points = c.args.system.now in
    let lo = c.args.lo.now in
    let hi = c.args.hi.now in
    let valid = c.in_ok-findings.ensures.valid in
    let findings = c.in_ok-findings.ensures.findings in
    let all : c.loop-i.i ≡ length points = omega (arith, c.loop-i.auto.i-end, c.loop-i-test.false, ap length c.deref-finding-items.ensures.value, findings.many) in
    let fixed = enclosing points lo hi c.loop-i.i c.loop-i.gap c.loop-i.worst valid c.loop-i.invariant all in
    let law = c.residuals_enclose.ensures in
    record {
      ordered = law.ordered points lo hi valid chains c.requires.lo_boxed c.requires.hi_boxed fixed.lower_residuals fixed.upper_residuals;
      between = λ d z exact. law.encloses points lo hi d z valid chains c.requires.lo_boxed c.requires.hi_boxed fixed.lower_residuals fixed.upper_residuals exact;
    }

use Rattle.fix_cert.proofs.Verdicts.{IsSoFar}
use Rattle.fix_cert.proofs.certificate.check.Given as goal

abbrev pub invariant-loop-i : goal.invariant-loop-i
invariant-loop-i g l = IsSoFar l.system l.lo l.hi l.i l.gap l.worst

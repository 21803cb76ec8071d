use Rattle.book_design.proofs.AssemblyCore.{IsCoreUpTo}
use Rattle.book_design.proofs.assembly.core_of.Given as goal

abbrev pub invariant-loop-strip : goal.invariant-loop-strip
invariant-loop-strip l = IsCoreUpTo l.height l.strips l.strip-index l.core

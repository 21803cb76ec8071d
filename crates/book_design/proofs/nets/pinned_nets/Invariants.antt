use Rattle.book_design.proofs.Netting.{AreNetted}
use Rattle.book_design.proofs.nets.pinned_nets.Given as goal

abbrev pub invariant-loop-n : goal.invariant-loop-n
invariant-loop-n l = AreNetted l.records l.n l.nets.items

use Rattle.std.proofs.Common.{IsSome}
use Rattle.book_tests.proofs.outer.whole.Given as goal

abbrev pub invariant-loop : goal.invariant-loop
invariant-loop g l = IsSome ((g.F.Folder.state l.folder).reading)

use Rattle.std.proofs.Common.{length}
use Rattle.book_outer.proofs.Pieces.{IsSent}
use Rattle.book_outer.proofs.host.write_whole.Given as goal

abbrev pub invariant-loop-rest : goal.invariant-loop-rest
invariant-loop-rest g l = IsSent (g.F.Write.contents l.initial.to) (g.F.Write.contents l.to) l.bytes l.rest

abbrev pub decreases-loop-rest : goal.decreases-loop-rest
decreases-loop-rest g l = length l.rest

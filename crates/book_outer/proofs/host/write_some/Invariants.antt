use Rattle.std.specs.Io.KnownBytes.{Keeps}
use Rattle.book_outer.proofs.host.write_some.Given as goal

abbrev pub invariant-loop : goal.invariant-loop
invariant-loop g l = Keeps (g.F.Write.contents l.initial.to) (g.F.Write.contents l.to)

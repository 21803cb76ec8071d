use Rattle.std.proofs.Common.{drop}
use Rattle.net_model.proofs.CliqueMarks.{MarksWithin}
use Rattle.net_model.proofs.clique.unmark.Given as goal

abbrev pub invariant-loop-pin : goal.invariant-loop-pin
invariant-loop-pin l = MarksWithin (drop l.pin-index l.pins) l.seen

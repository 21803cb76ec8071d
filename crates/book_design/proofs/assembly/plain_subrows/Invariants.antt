use Rattle.std.proofs.Common.{◌≡◌, map, take}
use Rattle.book_design.specs.Forms.Parts.{joined_kept}
use Rattle.book_design.proofs.assembly.plain_subrows.Given as goal

abbrev pub invariant-loop-strip : goal.invariant-loop-strip
invariant-loop-strip l = l.subrows.items ≡ map joined_kept (take l.strip-index l.strips)

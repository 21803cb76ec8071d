use Rattle.std.proofs.Common.{◌≡◌, take}
use Rattle.book_files.specs.PlaceText.{placement_text}
use Rattle.book_files.specs.Entries.{place_entries}
use Rattle.book_files.proofs.text.write_pl.Given as goal

abbrev pub invariant-loop-line : goal.invariant-loop-line
invariant-loop-line l = l.text.items ≡ placement_text (place_entries (take l.line-index l.lines))

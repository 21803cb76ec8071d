use Rattle.std.specs.List.{AllByRecursion}
use Rattle.book_files.specs.Entries.{place_entries}
use Rattle.book_files.specs.Ranges.{IsName, IsMarkedWell}
use Rattle.step_bench.proofs.placement.lines.Given as goal

abbrev pub invariant-loop-i : goal.invariant-loop-i
invariant-loop-i l = AllByRecursion (λ place. IsName place.name) (place_entries l.lines.items) × AllByRecursion (λ place. IsMarkedWell place.fixed place.overlap) (place_entries l.lines.items)

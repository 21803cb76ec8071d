use Rattle.std.proofs.Common.{ℕ, ◌<◌}
use Rattle.book_design.specs.Faults.{IsUnknownPlace}
use Rattle.book_design.specs.Forms.Sources.{records_of}
use Rattle.book_design.proofs.nets.test_places.Given as goal

abbrev pub invariant-loop-place : goal.invariant-loop-place
invariant-loop-place l = (k : ℕ) → k < l.place-index → IsUnknownPlace (records_of l.records) k → ⊥

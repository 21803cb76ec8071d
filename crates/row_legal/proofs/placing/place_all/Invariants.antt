use Rattle.std.proofs.Common.{◌≡◌, ℕ, ◌<◌, length}
use Rattle.row_legal.specs.Forms.Rows.{IsRowPlaced}
use Rattle.row_legal.proofs.placing.place_all.Given as goal

-- the cells of the first segments have their places
abbrev pub invariant-loop-s : goal.invariant-loop-s
invariant-loop-s l = record {
  all : length l.places.items ≡ length l.choices;
  each : (t : ℕ) → t < l.s → IsRowPlaced l.pitch l.segments l.choices l.places.items t;
}

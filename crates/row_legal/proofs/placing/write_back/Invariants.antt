use Rattle.std.proofs.Common.{◌≡◌, ◌≢◌, ℕ, ◌<◌, length, slice_index}
use Rattle.row_legal.specs.Places.{place_at}
use Rattle.row_legal.specs.Forms.Choices.{choice_at}
use Rattle.row_legal.proofs.placing.write_back.Given as goal

-- the places of the first cells are written, and those of others as they were
abbrev pub invariant-loop-i : goal.invariant-loop-i
invariant-loop-i l = record {
  all : length l.places.items ≡ length l.fn.places.items;
  written : (k : ℕ) → k < l.i → place_at l.places.items (choice_at l.row k).cell ≡ record { segment = l.s; site = slice_index l.firsts k };
  kept : (c : ℕ) → ((k : ℕ) → k < l.i → (choice_at l.row k).cell ≢ c) → place_at l.places.items c ≡ place_at l.fn.places.items c;
}

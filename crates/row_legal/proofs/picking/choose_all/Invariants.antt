use Rattle.std.proofs.Common.{◌≡◌, ℕ, ◌<◌, length, slice_index}
use Rattle.row_legal.specs.Forms.Choices.{AreChosen, room_after}
use Rattle.row_legal.proofs.picking.choose_all.Given as goal

-- the first cells have their segments, and the rooms are what they leave
abbrev pub invariant-loop-turn : goal.invariant-loop-turn
invariant-loop-turn l = record {
  choices : AreChosen l.pitch l.segments l.turns l.choices.items;
  many : length l.choices.items ≡ l.turn-index;
  all : length l.rooms.items ≡ length l.segments;
  left : (s : ℕ) → s < length l.segments → slice_index l.rooms.items s ≡ room_after l.segments l.choices.items s;
}

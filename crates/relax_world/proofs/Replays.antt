-- The moves of seats, one after another, and a slice of them written back.
use Rattle.std.proofs.Common.{◌≡◌, ℕ, ◌+◌, List, [], ◌∷◌, ◌++◌, sum, length, take, drop, arith}
use Rattle.std.proofs.lemmas.List.{map-append}
use Rattle.std.proofs.lemmas.List.Sums.{sum_by_push}
use Rattle.std.proofs.lemmas.Grind.{common_steps}
use Rattle.relax_table.specs.Seats.{SeatState}
use Rattle.relax_world.specs.Forms.Table.{moves_of}

pub moves-more : (seats : List SeatState) (s : SeatState) → sum (moves_of (seats ++ s ∷ [])) ≡ sum (moves_of seats) + s.moves
moves-more seats s = rw (map-append (λ (s : SeatState). s.moves) seats (s ∷ [])) (sum_by_push (λ (n : ℕ). n) (moves_of seats) s.moves)

-- a whole slice written back
pub rest_of : (new old : List SeatState) (len : ℕ) → length new ≡ length old → len ≡ length old → take len (new ++ drop (length new) old) ≡ new
rest_of new old len e f = rw (e, f) (grind (arith, common_steps))

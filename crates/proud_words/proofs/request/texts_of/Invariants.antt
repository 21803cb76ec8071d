use Rattle.std.proofs.Common.{◌≡◌, List, map, take}
use Rattle.std.specs.Prelude.{ℕ}
use Rattle.std.specs.Borrow.{Bor}
use Rattle.proud_words.proofs.request.texts_of.Given as goal

-- the first words so far
abbrev pub invariant-loop-at : goal.invariant-loop-at
invariant-loop-at l = map (λ (t : Bor (List ℕ)). t.now) l.texts.items ≡ take l.at l.words

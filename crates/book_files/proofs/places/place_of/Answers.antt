use Rattle.std.proofs.Common.{arith}
use Rattle.std.proofs.lemmas.Bool.{ltb-true, ltb-false}
use Rattle.book_files.proofs.PlaceSteps.{place_of-short, place_of-long}
use Rattle.book_files.proofs.places.place_of.Goals as goal
use Rattle.book_files.proofs.places.place_of.Goals.{in_default-via-then-words-lt3, in_default-via-else-words-lt3+else-words-lt4+else-words-lt5+else-words-lt6+else-words-lt7}

pub returns-in_default : goal.returns-in_default
returns-in_default c = elim c.in_default.branch [
  | in_default-via-then-words-lt3 w ↦ place_of-short (λ w. w.now) c.args.number c.args.words.now (omega (arith, ltb-true))
  | in_default-via-else-words-lt3+else-words-lt4+else-words-lt5+else-words-lt6+else-words-lt7 w ↦ place_of-long (λ w. w.now) c.args.number c.args.words.now (omega (arith, ltb-false))
]

use Rattle.std.proofs.Common.{arith}
use Rattle.std.proofs.lemmas.Bool.{ltb-true, ltb-false}
use Rattle.book_files.proofs.NetSteps.{pin_of-short, pin_of-between, pin_of-long}
use Rattle.book_files.proofs.nets.pin_of.Goals as goal
use Rattle.book_files.proofs.nets.pin_of.Goals.{in_default-via-then-words-lt1, in_default-via-else-words-lt1+else-words-lt2+else-words-lt3+then-words-lt5, in_default-via-else-words-lt1+else-words-lt2+else-words-lt3+else-words-lt5+else-words-lt6}

pub returns-in_default : goal.returns-in_default
returns-in_default c = elim c.in_default.branch [
  | in_default-via-then-words-lt1 w ↦ pin_of-short (λ w. w.now) c.args.number c.args.words.now (omega (arith, ltb-true))
  | in_default-via-else-words-lt1+else-words-lt2+else-words-lt3+then-words-lt5 w ↦ pin_of-between (λ w. w.now) c.args.number c.args.words.now (omega (arith, ltb-false)) (omega (arith, ltb-true))
  | in_default-via-else-words-lt1+else-words-lt2+else-words-lt3+else-words-lt5+else-words-lt6 w ↦ pin_of-long (λ w. w.now) c.args.number c.args.words.now (omega (arith, ltb-false))
]

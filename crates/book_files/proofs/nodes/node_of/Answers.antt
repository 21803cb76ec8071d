use Rattle.std.proofs.Common.{arith}
use Rattle.std.proofs.lemmas.Bool.{ltb-true, ltb-false}
use Rattle.book_files.proofs.NodeSteps.{node_of-short, node_of-long}
use Rattle.book_files.proofs.nodes.node_of.Goals as goal
use Rattle.book_files.proofs.nodes.node_of.Goals.{in_default-via-then-words-lt3, in_default-via-else-words-lt3+else-words-lt4+else-words-lt5}

pub returns-in_default : goal.returns-in_default
returns-in_default c = elim c.in_default.branch [
  | in_default-via-then-words-lt3 w ↦ node_of-short (λ w. w.now) c.args.number c.args.words.now (omega (arith, ltb-true))
  | in_default-via-else-words-lt3+else-words-lt4+else-words-lt5 w ↦ node_of-long (λ w. w.now) c.args.number c.args.words.now (omega (arith, ltb-false))
]

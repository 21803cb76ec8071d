use Rattle.std.proofs.Common.{arith}
use Rattle.std.proofs.lemmas.Bool.{ltb-true, ltb-false}
use Rattle.book_files.specs.Forms.Rows.{positive_of}
use Rattle.book_files.specs.Forms.Progress.{Gives}
use Rattle.book_files.proofs.RowLines.{once_by-three, once_by-short, once_by-long}
use Rattle.book_files.proofs.row_lines.once_positive.Goals as goal

pub returns-in-len3 : goal.returns-in-len3
returns-in-len3 c = once_by-three (λ w. w.now) (Gives (λ number. number.0) c.positive_of.result) positive_of c.args.stood c.args.words.now _ (omega (arith, ltb-false)) (omega (arith, ltb-true)) c.if-not-stood.true c.positive_of.ensures

pub returns-in_default : goal.returns-in_default
returns-in_default c = once_by-short (λ w. w.now) positive_of c.args.stood c.args.words.now (omega (arith, ltb-true))

pub returns-in_default-3 : goal.returns-in_default-3
returns-in_default-3 c = once_by-long (λ w. w.now) positive_of c.args.stood c.args.words.now (omega (arith, ltb-false))

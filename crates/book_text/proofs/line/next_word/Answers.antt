use Rattle.std.proofs.Common.{arith}
use Rattle.book_text.proofs.NextWord.{IsBehindBlanks, words_of-none, next_word-colon, next_word-run}
use Rattle.book_text.proofs.line.next_word.Goals as goal

pub returns-then-from-words : goal.returns-then-from-words
returns-then-from-words c =
    let behind : IsBehindBlanks c.args.text.now c.args.at c.args.words.to c.behind_blanks-from.result =
    record { ordered = c.requires.at_within; within = c.requires.words_within; skipped = c.behind_blanks-from.ensures.place } in
    words_of-none _ _ _ _ behind c.if-from-words.true

pub returns-then-text-from-eq-COLON : goal.returns-then-text-from-eq-COLON
returns-then-text-from-eq-COLON c =
    let behind : IsBehindBlanks c.args.text.now c.args.at c.args.words.to c.behind_blanks-from.result =
    record { ordered = c.requires.at_within; within = c.requires.words_within; skipped = c.behind_blanks-from.ensures.place } in
    next_word-colon _ _ _ _ behind (omega arith) c.if-text-from-eq-COLON.true

pub returns-else-text-from-eq-COLON : goal.returns-else-text-from-eq-COLON
returns-else-text-from-eq-COLON c =
    let behind : IsBehindBlanks c.args.text.now c.args.at c.args.words.to c.behind_blanks-from.result =
    record { ordered = c.requires.at_within; within = c.requires.words_within; skipped = c.behind_blanks-from.ensures.place } in
    next_word-run _ _ _ _ behind c.run_end.result c.before_colons-to.result (omega arith) c.if-text-from-eq-COLON.false
    c.run_end.ensures.within c.run_end.ensures.place c.before_colons-to.ensures

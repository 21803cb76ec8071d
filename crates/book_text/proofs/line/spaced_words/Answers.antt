use Rattle.book_text.proofs.Found.{content_words}
use Rattle.book_text.proofs.Spaced.{lines_of-spaced, words_of-spaced}
use Rattle.book_text.proofs.line.spaced_words.Goals as goal

pub returns-clause-words : goal.returns-clause-words
returns-clause-words c = words_of-spaced

pub returns-clause-one_line : goal.returns-clause-one_line
returns-clause-one_line c = lines_of-spaced

pub returns-clause-found : goal.returns-clause-found
returns-clause-found c = content_words

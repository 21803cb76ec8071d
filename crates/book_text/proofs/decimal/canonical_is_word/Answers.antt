use Rattle.book_text.proofs.CanonicalWords.{canonical-word}
use Rattle.book_text.proofs.decimal.canonical_is_word.Goals as goal

pub returns : goal.returns
returns c = canonical-word

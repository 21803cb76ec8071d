use Rattle.book_text.proofs.Canonical.{canonical-reads_back}
use Rattle.book_text.proofs.decimal.canonical_reads_back.Goals as goal

pub returns : goal.returns
returns c = canonical-reads_back

use Rattle.book_files.proofs.PlacementText.{reads_back}
use Rattle.book_files.proofs.text.placement_reads_back.Goals as goal

pub returns : goal.returns
returns c = reads_back c.spaced_words.ensures.words c.spaced_words.ensures.one_line c.canonical_reads_back.ensures c.canonical_is_word.ensures

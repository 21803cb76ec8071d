use Rattle.std.proofs.Common.{map}
use Rattle.book_files.specs.Forms.RowProgress.{block_stated}
use Rattle.book_files.proofs.RowRanges.{inner_range}
use Rattle.book_files.proofs.row_block.BlockSoFar.with.Goals as goal

pub add-requires : goal.add-requires
add-requires c = (inner_range (block_stated c.args.self) (map (λ w. w.now) c.args.words.now) _ c.in_ok-part.ensures).0

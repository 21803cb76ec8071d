use Rattle.book_design.proofs.OneJoin.{one_join}
use Rattle.book_design.proofs.laws.one_join.Goals as goal

pub returns : goal.returns
returns c = one_join

use Rattle.book_files.proofs.Names.{aux_of_found}
use Rattle.book_files.proofs.aux.by_suffix.Goals as goal

pub returns : goal.returns
returns c = aux_of_found _ _ _ _ _ _ _ _ _ _ c.in_ok-one_named.ensures c.in_ok-one_named-2.ensures c.in_ok-at_most_one_named.ensures c.in_ok-one_named-3.ensures c.in_ok-one_named-4.ensures

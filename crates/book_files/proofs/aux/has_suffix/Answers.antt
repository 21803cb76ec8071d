use Rattle.book_files.proofs.Names.{has_suffix_is}
use Rattle.book_files.proofs.aux.has_suffix.Goals as goal

pub returns : goal.returns
returns c = has_suffix_is c.args.suffix.now c.args.name.now c.saturating_sub-front.result c.eq_ignore_ascii_case.result c.requires c.saturating_sub-front.ensures c.eq_ignore_ascii_case.ensures.test

use Rattle.std.proofs.Common.{◌∙◌}
use Rattle.book_files.proofs.Names.{is_text_is}
use Rattle.book_files.proofs.aux.is_text.Goals as goal

pub returns : goal.returns
returns c = c.is_ok.ensures.value ∙ is_text_is (λ t. t.now) c.args.name.now _ c.from_utf8.result c.from_utf8.ensures.cases

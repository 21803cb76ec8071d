use Rattle.std.proofs.Common.{ap, ◌∙◌}
use Rattle.book_outer.proofs.Entries.{entries-set}
use Rattle.book_outer.specs.Forms.Store.{entries, with_bytes}
use Rattle.book_outer.proofs.lists.empty_at.Goals as goal

pub returns : goal.returns
returns c =
    let files = c.args.files.now in
    entries-set files c.args.at c.index-files-at.result c.clear.new.self c.requires
    ∙ ap (with_bytes (entries files) c.args.at) c.clear.ensures.items

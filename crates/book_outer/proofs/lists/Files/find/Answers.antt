use Rattle.std.proofs.Common.{bytes_eq, position, sym, ap, ◌∙◌}
use Rattle.book_outer.proofs.Entries.{position-map, searched}
use Rattle.book_outer.specs.Files.{FileEntry}
use Rattle.book_outer.specs.Forms.Store.{entry_of, entries}
use Rattle.book_outer.proofs.lists.Files.find.Goals as goal

pub returns : goal.returns
returns c =
    let has_name = λ (file : FileEntry). bytes_eq file.name c.args.name.now in
    searched c.args.self.now c.args.name.now c.position_of.result
    (c.position_of.ensures
    ∙ sym (position-map has_name entry_of c.deref.result.now)
    ∙ ap (position has_name) (ap entries c.deref.ensures.value ∙ c.self.view_is))

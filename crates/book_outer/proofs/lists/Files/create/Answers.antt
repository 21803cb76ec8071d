use Rattle.std.proofs.Common.{[], sym, subst, ◌∙◌}
use Rattle.book_outer.specs.Forms.Store.{IsNamed}
use Rattle.book_outer.proofs.Entries.{with_content-absent, named-with_bytes, named-push}
use Rattle.book_outer.proofs.lists.Files.create.Goals as goal

pub returns-in-Some-clause-nth : goal.returns-in-Some-clause-nth
returns-in-Some-clause-nth c =
    let name = c.args.name.now in
    subst (λ files. IsNamed files name c.in-Some.at) (sym c.empty.ensures) (named-with_bytes c.args.self.now name c.in-Some.at [] c.in-Some.ensures)

pub returns-in_ok-push-in-None-clause-created : goal.returns-in_ok-push-in-None-clause-created
returns-in_ok-push-in-None-clause-created c =
    c.in_ok-push-in-None.ensures.pushed ∙ sym (with_content-absent c.args.self.now c.args.name.now [] c.in-None.ensures)

pub returns-in_ok-push-in-None-clause-nth : goal.returns-in_ok-push-in-None-clause-nth
returns-in_ok-push-in-None-clause-nth c =
    let name = c.args.name.now in
    let pushed = named-push c.args.self.now name [] c.in-None.ensures in
    subst (λ files. IsNamed files name c.len-at.result) (sym c.in_ok-push-in-None.ensures.pushed)
    (subst (IsNamed _ name) (sym c.len-at.ensures) pushed)

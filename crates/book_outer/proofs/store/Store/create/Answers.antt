use Rattle.std.proofs.Common.{[], sym, subst}
use Rattle.std.proofs.lemmas.Option.{none-some, same_Some}
use Rattle.book_outer.specs.Forms.Store.{IsFound}
use Rattle.book_outer.proofs.Entries.{found-with_content}
use Rattle.book_outer.proofs.store.Store.create.Goals as goal

pub invariant_of-self-in_err-at : goal.invariant_of-self-in_err-at
invariant_of-self-in_err-at c = record {
  read = λ r is. subst (λ files. IsFound files r.file) (sym c.in_err-at.ensures.kept) (c.self.invariant.read r is);
  written = λ w is. absurd (none-some w is);
}

pub invariant_of-self-2 : goal.invariant_of-self-2
invariant_of-self-2 c =
    let new = c.create.new.self in
    record {
      read = λ r is. subst (λ files. IsFound files r.file) (sym c.in_ok-at.ensures.created) (found-with_content c.self.inside.files c.args.name.now [] r.file (c.self.invariant.read r is));
      written = λ w is. subst (IsFound new) (same_Some c.in_ok-at.at w is) c.in_ok-at.ensures.nth.found;
    }

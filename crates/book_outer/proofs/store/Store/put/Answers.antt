use Rattle.std.proofs.Common.{◌≡◌, ℕ, ◌++◌, Some, take, refl, sym, subst}
use Rattle.std.proofs.lemmas.Result.{err_from_is_err_and}
use Rattle.book_outer.specs.Folder.{Grows}
use Rattle.book_outer.specs.Memory.{StoredFiles}
use Rattle.book_outer.specs.Forms.Store.{IsFound, entry_at, writing_of}
use Rattle.book_outer.proofs.Entries.{found-with_bytes}
use Rattle.book_outer.proofs.Stored.{puts_all, puts_none, open_kept}
use Rattle.book_outer.proofs.store.Store.put.Goals as goal

pub returns-then-fails-clause-puts : goal.returns-then-fails-clause-puts
returns-then-fails-clause-puts c =
    let P : StoredFiles → Type 0 = λ s. (n : ℕ) × Grows (Some s.files) s.writing (take n c.args.bytes.now) (Some s.files) in
    let files = c.self.inside.files in
    let found = c.self.invariant.written c.unwrap-at.result c.unwrap-at.ensures in
    subst P c.self.view_is (0, puts_none files files c.self.inside.writing c.unwrap-at.result c.unwrap-at.ensures found refl)

pub extend-requires : goal.extend-requires
extend-requires c = (c.self.invariant.written c.unwrap-at.result c.unwrap-at.ensures).inside

pub invariant_of-self : goal.invariant_of-self
invariant_of-self c =
    open_kept c.self.inside.files c.extend.new.self c.self.inside.reading c.self.inside.writing c.self.invariant
    (λ k found. subst (λ files. IsFound files k) (sym c.in_err-extend.ensures.kept) found)

pub returns-in_err-extend-clause-puts : goal.returns-in_err-extend-clause-puts
returns-in_err-extend-clause-puts c =
    let p = err_from_is_err_and c.from_residual.result c.from_residual.ensures.1 in
    let new = c.extend.new.self in
    let P : StoredFiles → Type 0 = λ s. (n : ℕ) × Grows (Some s.files) s.writing (take n c.args.bytes.now) (Some new) in
    let found = c.self.invariant.written c.unwrap-at.result c.unwrap-at.ensures in
    rw (p.1) (subst P c.self.view_is (0, puts_none c.self.inside.files new c.self.inside.writing c.unwrap-at.result c.unwrap-at.ensures found c.in_err-extend.ensures.kept))

pub invariant_of-self-2 : goal.invariant_of-self-2
invariant_of-self-2 c =
    let files = c.self.inside.files in
    let at = c.unwrap-at.result in
    open_kept files c.extend.new.self c.self.inside.reading c.self.inside.writing c.self.invariant
    (λ k found. subst (λ new. IsFound new k) (sym c.in_ok-extend.ensures.extended) (found-with_bytes files at k ((entry_at files at).bytes ++ c.args.bytes.now) found))

pub returns-clause-puts : goal.returns-clause-puts
returns-clause-puts c =
    let new = c.extend.new.self in
    let bytes = c.args.bytes.now in
    let P : StoredFiles → Type 0 = λ s. Grows (Some s.files) s.writing bytes (Some new) × (writing_of new c.self.inside.writing ≡ s.writing) in
    let found = c.self.invariant.written c.unwrap-at.result c.unwrap-at.ensures in
    subst P c.self.view_is (puts_all c.self.inside.files new c.self.inside.writing c.unwrap-at.result bytes c.unwrap-at.ensures found c.in_ok-extend.ensures.extended)

use Rattle.std.proofs.Common.{◌++◌, ap, sym, ◌∙◌}
use Rattle.std.proofs.lemmas.Result.{err_from_is_err_and}
use Rattle.book_outer.proofs.Entries.{entries-set, entry_at-entries, with_bytes-same}
use Rattle.book_outer.specs.Files.{FileEntry}
use Rattle.book_outer.specs.Forms.Store.{entries, with_bytes}
use Rattle.book_outer.proofs.lists.extend_at.Goals as goal

pub returns-in_err-extend_from_slice-clause-kept : goal.returns-in_err-extend_from_slice-clause-kept
returns-in_err-extend_from_slice-clause-kept c =
    let p = err_from_is_err_and c.from_residual.result c.from_residual.ensures.1 in
    let files = c.args.files.now in
    let file = c.index-files-at.result in
    let same = c.in_err-extend_from_slice.ensures.items in
    rw (p.1) (entries-set files c.args.at file c.extend_from_slice.new.self c.requires
    ∙ ap (with_bytes (entries files) c.args.at)
    (same ∙ ap (λ (e : FileEntry). e.bytes) (sym (entry_at-entries files c.args.at file c.requires)))
    ∙ with_bytes-same (entries files) c.args.at)

pub returns-clause-extended : goal.returns-clause-extended
returns-clause-extended c =
    let files = c.args.files.now in
    let file = c.index-files-at.result in
    let grown = c.in_ok-extend_from_slice.ensures.items in
    entries-set files c.args.at file c.extend_from_slice.new.self c.requires
    ∙ ap (with_bytes (entries files) c.args.at)
    (grown ∙ ap (λ (e : FileEntry). e.bytes ++ c.args.bytes.now) (sym (entry_at-entries files c.args.at file c.requires)))

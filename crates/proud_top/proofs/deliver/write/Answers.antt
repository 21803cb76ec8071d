use Rattle.std.proofs.Common.{◌≡◌}
use Rattle.std.proofs.lemmas.Result.{err_from_is_err_and}
use Rattle.proud_top.proofs.Output.{may_write, not_created, made_and_put, not_made, written, calm}
use Rattle.proud_top.proofs.deliver.write.Goals as goal

pub returns-in_err-create-clause-writes : goal.returns-in_err-create-clause-writes
returns-in_err-create-clause-writes g c =
    let f = g.F.Folder.state c.args.folder.now in
    let m = g.F.Folder.state c.create.new.self in
    let trouble = c.in_err-create.field-0.0 in
    let p = err_from_is_err_and c.from_residual.result c.from_residual.ensures.1 in
    let q : p.0 ≡ trouble = p.2 in
    rw (p.1, q) (not_made f m c.args.name.now c.args.text.now trouble (not_created f.files m.files c.args.name.now trouble m.writing c.in_err-create.ensures.creates) c.in_err-create.ensures.cause)

pub put-requires : goal.put-requires
put-requires g c =
    let f = g.F.Folder.state c.args.folder.now in
    let m = g.F.Folder.state c.create.new.self in
    may_write f.files m.files c.args.name.now _ m.writing c.in_ok-create.ensures.creates

pub returns-clause-writes : goal.returns-clause-writes
returns-clause-writes g c =
    let f = g.F.Folder.state c.args.folder.now in
    let m = g.F.Folder.state c.create.new.self in
    let f' = g.F.Folder.state c.put.new.self in
    written f m f' c.args.name.now c.args.text.now c.put.result (calm f.write_faults m.write_faults _ c.in_ok-create.ensures.cause)
    (made_and_put f.files m.files f'.files c.args.name.now c.args.text.now _ m.writing f'.writing c.put.result c.in_ok-create.ensures.creates c.put.ensures.puts) c.put.ensures.cause

use Rattle.std.proofs.Common.{◌≡◌, ap, sym}
use Rattle.std.specs.Prelude.{Some}
use Rattle.std.proofs.lemmas.Result.{err_from_is_err_and}
use Rattle.book_files.specs.declared.records.FileKind.TheVariants.{Nodes, Nets, Wts, Pl}
use Rattle.proud_top.specs.Forms.Sources.{generated}
use Rattle.proud_top.proofs.Taking.{none_before, one_more, look_stopped, sound_as, looked_through}
use Rattle.proud_top.proofs.source.look_through.Goals as goal

pub returns-in_err-look_at : goal.returns-in_err-look_at
returns-in_err-look_at c =
    let texts = generated c.args.texts.now in
    let b1 = none_before texts in
    let stop = c.in_err-look_at.field-0.0 in
    let p = err_from_is_err_and c.from_residual.result c.from_residual.ensures.1 in
    let q : p.0 ≡ stop = p.2 in
    rw (p.1, q) (look_stopped texts Nodes c.deref.result.now stop b1 (ap Some (sym c.deref.ensures.value)) c.in_err-look_at.ensures)

pub returns-in_err-look_at-2 : goal.returns-in_err-look_at-2
returns-in_err-look_at-2 c =
    let texts = generated c.args.texts.now in
    let b1 = none_before texts in
    let b2 = one_more texts Nodes c.deref.result.now b1 (ap Some (sym c.deref.ensures.value)) c.in_ok-look_at.ensures.0 in
    let stop = c.in_err-look_at-2.field-0.0 in
    let p = err_from_is_err_and c.from_residual-in_err-look_at-2.result c.from_residual-in_err-look_at-2.ensures.1 in
    let q : p.0 ≡ stop = p.2 in
    rw (p.1, q) (look_stopped texts Nets c.deref-2.result.now stop b2 (ap Some (sym c.deref-2.ensures.value)) c.in_err-look_at-2.ensures)

pub returns-in_err-look_at-3 : goal.returns-in_err-look_at-3
returns-in_err-look_at-3 c =
    let texts = generated c.args.texts.now in
    let b1 = none_before texts in
    let b2 = one_more texts Nodes c.deref.result.now b1 (ap Some (sym c.deref.ensures.value)) c.in_ok-look_at.ensures.0 in
    let b3 = one_more texts Nets c.deref-2.result.now b2 (ap Some (sym c.deref-2.ensures.value)) c.in_ok-look_at-2.ensures.0 in
    let stop = c.in_err-look_at-3.field-0.0 in
    let p = err_from_is_err_and c.from_residual-in_err-look_at-3.result c.from_residual-in_err-look_at-3.ensures.1 in
    let q : p.0 ≡ stop = p.2 in
    rw (p.1, q) (look_stopped texts Wts c.deref-3.result.now stop b3 (ap Some (sym c.deref-3.ensures.value)) c.in_err-look_at-3.ensures)

pub returns-in_err-look_at-4 : goal.returns-in_err-look_at-4
returns-in_err-look_at-4 c =
    let texts = generated c.args.texts.now in
    let b1 = none_before texts in
    let b2 = one_more texts Nodes c.deref.result.now b1 (ap Some (sym c.deref.ensures.value)) c.in_ok-look_at.ensures.0 in
    let b3 = one_more texts Nets c.deref-2.result.now b2 (ap Some (sym c.deref-2.ensures.value)) c.in_ok-look_at-2.ensures.0 in
    let b4 = one_more texts Wts c.deref-3.result.now b3 (ap Some (sym c.deref-3.ensures.value)) c.in_ok-look_at-3.ensures.0 in
    let stop = c.in_err-look_at-4.field-0.0 in
    let p = err_from_is_err_and c.from_residual-in_err-look_at-4.result c.from_residual-in_err-look_at-4.ensures.1 in
    let q : p.0 ≡ stop = p.2 in
    rw (p.1, q) (look_stopped texts Pl c.deref-4.result.now stop b4 (ap Some (sym c.deref-4.ensures.value)) c.in_err-look_at-4.ensures)

pub returns : goal.returns
returns c =
    let texts = generated c.args.texts.now in
    let b1 = none_before texts in
    let b2 = one_more texts Nodes c.deref.result.now b1 (ap Some (sym c.deref.ensures.value)) c.in_ok-look_at.ensures.0 in
    let b3 = one_more texts Nets c.deref-2.result.now b2 (ap Some (sym c.deref-2.ensures.value)) c.in_ok-look_at-2.ensures.0 in
    let b4 = one_more texts Wts c.deref-3.result.now b3 (ap Some (sym c.deref-3.ensures.value)) c.in_ok-look_at-3.ensures.0 in
    let b5 = one_more texts Pl c.deref-4.result.now b4 (ap Some (sym c.deref-4.ensures.value)) c.in_ok-look_at-4.ensures.0 in
    looked_through texts c.deref-5.result.now c.look_at-5.result b5 c.deref-5.ensures.value
    (sound_as Nodes c.deref.result.now texts.nodes c.deref.ensures.value c.in_ok-look_at.ensures.1)
    (sound_as Nets c.deref-2.result.now texts.nets c.deref-2.ensures.value c.in_ok-look_at-2.ensures.1)
    (sound_as Wts c.deref-3.result.now c.args.texts.now.wts.items c.deref-3.ensures.value c.in_ok-look_at-3.ensures.1)
    (sound_as Pl c.deref-4.result.now texts.pl c.deref-4.ensures.value c.in_ok-look_at-4.ensures.1)
    c.look_at-5.ensures

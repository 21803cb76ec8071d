use Rattle.std.proofs.Common.{◌≡◌}
use Rattle.std.proofs.lemmas.Result.{err_from_is_err_and}
use Rattle.proud_top.proofs.Gathering.{load_stops, look_stops, next_read}
use Rattle.proud_top.proofs.gather.next_text.Goals as goal

pub returns-in_err-text : goal.returns-in_err-text
returns-in_err-text g c old word names m next =
    let stop = c.in_err-text.field-0.0 in
    let p = err_from_is_err_and c.from_residual.result c.from_residual.ensures.1 in
    let q : p.0 ≡ stop = p.2 in
    rw (p.1, q) (load_stops c.args.kind c.args.name.now old _ _ word names m stop next c.in_err-text.ensures)

pub returns-in_err-look : goal.returns-in_err-look
returns-in_err-look g c old word names m next =
    let stop = c.in_err-look.field-0.0 in
    let p = err_from_is_err_and c.from_residual-in_err-look.result c.from_residual-in_err-look.ensures.1 in
    let q : p.0 ≡ stop = p.2 in
    rw (p.1, q) (look_stops c.args.kind c.args.name.now c.deref.result.now c.in_ok-text.text old _ _ word names m stop c.deref.ensures.value next c.in_ok-text.ensures c.in_err-look.ensures)

pub returns : goal.returns
returns g c old word names m next = next_read c.args.kind c.args.name.now c.deref.result.now c.in_ok-text.text old _ _ word names m c.deref.ensures.value next c.in_ok-text.ensures c.in_ok-look.ensures

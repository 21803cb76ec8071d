use Rattle.std.proofs.Common.{◌≡◌}
use Rattle.std.proofs.lemmas.Result.{err_from_is_err_and}
use Rattle.proud_top.specs.Forms.Sources.{generated}
use Rattle.proud_top.proofs.Taking.{made_texts, stops_as, are_short}
use Rattle.proud_top.proofs.source.generate.Goals as goal

pub returns-in_err-look_through : goal.returns-in_err-look_through
returns-in_err-look_through c =
    let stop = c.in_err-look_through.field-0.0 in
    let p = err_from_is_err_and c.from_residual-in_err-look_through.result c.from_residual-in_err-look_through.ensures.1 in
    let q : p.0 ≡ stop = p.2 in
    rw (p.1, q) (stops_as c.args.grid (generated c.in_ok-texts.texts) stop (made_texts c.args.grid c.in_ok-texts.texts c.in_ok-texts.ensures) c.in_err-look_through.ensures)

pub returns : goal.returns
returns c = (made_texts c.args.grid c.in_ok-texts.texts c.in_ok-texts.ensures, are_short (generated c.in_ok-texts.texts) c.in_ok-look_through.ensures)

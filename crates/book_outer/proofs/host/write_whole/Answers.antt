use Rattle.std.proofs.lemmas.List.{take_rest}
use Rattle.std.proofs.lemmas.Result.{err_from_is_err_and}
use Rattle.book_outer.proofs.Pieces.{sent_more, sent_kept, sent_some}
use Rattle.book_outer.proofs.host.write_whole.Goals as goal

pub returns-in_err-n : goal.returns-in_err-n
returns-in_err-n g c =
    let p = err_from_is_err_and c.from_residual.result c.from_residual.ensures.1 in
    rw (p.1) (sent_some _ _ _ _ (sent_kept _ _ _ _ _ c.loop-rest.invariant c.in_err-n.ensures.bytes))

pub loop-rest-preserved : goal.loop-rest-preserved
loop-rest-preserved g c =
    rw take_rest (sent_more _ _ _ _ _ _ c.loop-rest.invariant c.in_ok-n.ensures.bytes)

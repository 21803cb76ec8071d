use Rattle.std.proofs.Common.{arith}
use Rattle.row_legal.proofs.placing.side_by_side.Goals as goal

pub returns-clause-short : goal.returns-clause-short
returns-clause-short c = λ i lt.
    let at = c.in_ok-firsts.ensures.each i (omega (arith, lt, c.in_ok-firsts.ensures.all)) in
    omega (arith, at.2, c.from.ensures)

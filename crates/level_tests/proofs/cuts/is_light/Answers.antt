use Rattle.std.proofs.Common.{ap, sum, arith}
use Rattle.std.proofs.lemmas.List.{take_all}
use Rattle.level_tests.proofs.cuts.is_light.Goals as goal

pub returns : goal.returns
returns c = λ _.
    let all = ap sum (take_all c.loop-area.area-index c.args.areas.now (omega arith)) in
    let total = c.loop-area.invariant.sum in
    let fits = c.loop-area.invariant.fits in
    omega arith

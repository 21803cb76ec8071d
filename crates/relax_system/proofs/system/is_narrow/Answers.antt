use Rattle.std.proofs.Common.{arith}
use Rattle.std.proofs.lemmas.Bool.{ltb-true}
use Rattle.relax_system.specs.System.{total_weight}
use Rattle.relax_system.proofs.Fits.{below_cut}
use Rattle.relax_system.proofs.system.is_narrow.Goals as goal

pub returns : goal.returns
returns c = λ small.
    let product = ltb-true _ _ small in
    omega (arith, below_cut 18446744073709551615 (total_weight c.args.point.now) c.args.point.now.hi (rw (c.from.ensures, c.total_weight.ensures, c.from-2.ensures, c.from-3.ensures) at product))

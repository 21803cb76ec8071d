use Rattle.std.proofs.Common.{◌*◌, arith}
use Rattle.std.specs.List.{slice_index}
use Rattle.std.proofs.lemmas.List.Sums.{sum_by_more_le}
use Rattle.relax_system.specs.declared.points.Near.{Near}
use Rattle.relax_system.proofs.mean.narrow_pull.Goals as goal

pub overflow_add-sum : goal.overflow_add-sum
overflow_add-sum c =
    omega (arith, c.requires.fits, c.loop-entry.invariant, sum_by_more_le (λ (n : Near). n.weight * slice_index c.args.v.now n.point) c.args.near.now c.loop-entry.entry-index (record { point = 0; weight = 0 }) (omega arith))

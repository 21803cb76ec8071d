use Rattle.std.proofs.Common.{ℕ, cond, ap, arith}
use Rattle.net_model.proofs.CountingTerms.{counted_fixed}
use Rattle.net_model.proofs.counting.count_fixed.Goals as goal
use Rattle.net_model.proofs.counting.count_fixed.Goals.{then-is_none, else-is_none}

pub loop-pin-preserved : goal.loop-pin-preserved
loop-pin-preserved c =
    let counted = counted_fixed c.args.design.now c.args.pins.now c.loop-pin.pin-index c.loop-pin.fixed c.point_of.result c.is_none.result c.loop-pin-test.true c.point_of.ensures.point c.is_none.ensures c.loop-pin.invariant.counted in
    elim c.if-is_none.branch [
      | then-is_none w ↦ record {
        counted = omega (arith, counted, w.fixed-is, ap (λ b. cond {A = ℕ} b 1 0) w.if-is_none.true);
        few = omega arith;
      }
      | else-is_none w ↦ record {
        counted = omega (arith, counted, w.fixed-is, ap (λ b. cond {A = ℕ} b 1 0) w.if-is_none.false);
        few = omega arith;
      }
    ]

use Rattle.std.proofs.Common.{arith}
use Rattle.area_cut.specs.declared.order.Placed.{Placed}
use Rattle.area_cut.specs.Forms.Placed.{numbers_of}
use Rattle.area_cut.proofs.Halving.{walk_fits, walk_more, fewer_more}
use Rattle.area_cut.proofs.order.first_part.Goals as goal

abbrev no_placed : Placed
no_placed = record { mid = 0; point = 0 }

pub overflow_add-part : goal.overflow_add-part
overflow_add-part c =
    let fits = walk_fits c.args.areas.now c.args.order.now c.loop-count.count no_placed (omega arith) in
    let sum = c.loop-count.invariant.sum in
    omega arith

pub loop-count-preserved : goal.loop-count-preserved
loop-count-preserved c =
    let more = walk_more c.args.areas.now c.args.order.now c.loop-count.count no_placed (omega arith) in
    let sum = c.loop-count.invariant.sum in
    record {
      sum = omega arith;
      fewer = fewer_more c.args.areas.now (numbers_of c.args.order.now) c.loop-count.count c.args.total c.loop-count.invariant.fewer (omega arith);
    }

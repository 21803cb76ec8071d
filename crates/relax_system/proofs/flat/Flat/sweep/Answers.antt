use Rattle.std.proofs.Common.{◌<◌, length, arith}
use Rattle.std.proofs.lemmas.Bool.{MatchBool-at_true, MatchBool-at_false}
use Rattle.relax_system.proofs.Sweeping.{swept_past, swept_still}
use Rattle.relax_system.proofs.flat.Flat.sweep.Goals as goal
use Rattle.relax_system.proofs.flat.Flat.sweep.Goals.{then-is_past, else-is_past}

pub loop-i-preserved : goal.loop-i-preserved
loop-i-preserved c =
    let there : c.loop-i.i < length c.args.self.now = omega (arith, c.loop-i.invariant.way.in_boxes.all) in
    elim c.if-is_past.branch [
      | then-is_past w ↦ rw (w.v-is, w.moved-is) (swept_past c.args.side c.args.self.now c.args.v.now c.loop-i.v c.loop-i.moved c.loop-i.i c.mean-mean.result c.requires.valid c.loop-i.invariant there c.mean-mean.ensures (MatchBool-at_true _ _ w.if-is_past.true c.is_past.ensures))
      | else-is_past w ↦ rw (w.v-is, w.moved-is) (swept_still c.args.side c.args.self.now c.args.v.now c.loop-i.v c.loop-i.moved c.loop-i.i c.mean-mean.result c.loop-i.invariant c.mean-mean.ensures (MatchBool-at_false _ _ w.if-is_past.false c.is_past.ensures))
    ]

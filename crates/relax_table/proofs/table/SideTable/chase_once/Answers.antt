use Rattle.std.proofs.Common.{◌≡◌, ◌+◌, ◌-◌, ap, ◌∙◌, arith}
use Rattle.relax_table.specs.Seats.{SeatState}
use Rattle.relax_table.specs.Forms.Chase.{idle_after}
use Rattle.relax_table.proofs.Chases.{chased_none, chased_on, chased_within, chased_taken, word_cost, idle_more}
use Rattle.relax_table.proofs.table.SideTable.chase_once.Goals as goal

pub loop-word-init : goal.loop-word-init
loop-word-init g c = record {
  chased = chased_within g.D.Direction.side c.args.self.now c.args.seat.now c.args.seat.now c.args.steps.now c.args.steps.now 0 _ 0 _ (chased_none g.D.Direction.side c.args.self.now c.args.seat.now c.args.steps.now 0 c.requires.own c.know.ensures) (omega arith) (omega arith);
  idle = omega arith;
}

pub loop-word-preserved : goal.loop-word-preserved
loop-word-preserved g c =
    let taken = chased_taken g.D.Direction.side c.args.self.now c.loop-word.seat c.take-marks.new.seat c.loop-word.steps c.take-marks.result c.take-marks.ensures.own c.take-marks.ensures.advances c.take-marks.ensures.taken in
    let both = chased_on g.D.Direction.side c.args.self.now c.args.seat.now c.loop-word.seat c.take-marks.new.seat c.args.steps.now c.loop-word.steps c.loop-word.steps _ _ _ _ c.loop-word.invariant.chased taken in
    let all = chased_on g.D.Direction.side c.args.self.now c.args.seat.now c.take-marks.new.seat c.relax_marked.new.seat c.args.steps.now c.loop-word.steps c.relax_marked.new.steps _ _ _ _ both c.relax_marked.ensures.chased in
    let idle : c.relax_marked.new.seat.idle ≡ idle_after c.take-marks.result c.loop-word.seat.idle = c.relax_marked.ensures.idle ∙ ap (λ (s : SeatState). s.idle) c.take-marks.ensures.taken in
    let more = idle_more c.loop-word.found c.differs.result c.take-marks.result c.args.seat.now.idle c.loop-word.seat.idle (c.loop-word.word - c.args.from) c.loop-word.invariant.idle c.differs.ensures in
    let count : (c.loop-word.word + 1) - c.args.from ≡ (c.loop-word.word - c.args.from) + 1 = omega arith in
    record {
      chased = chased_within g.D.Direction.side c.args.self.now c.args.seat.now c.relax_marked.new.seat c.args.steps.now c.relax_marked.new.steps _ _ _ _ all (omega arith) (word_cost c.args.self.now.system c.args.from c.loop-word.word (omega arith) (omega (arith, c.requires.within, c.loop-word-test.true)));
      idle = rw (c.either-found.ensures, idle, count) more;
    }

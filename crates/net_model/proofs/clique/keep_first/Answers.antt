use Rattle.std.proofs.Common.{◌+◌, ◌<◌, ◌∙◌, sym, ap, subst, arith, true, false, Bool, List, length, get_or, take, pos, append-nil}
use Rattle.book_design.specs.declared.parts.Pin.{Pin}
use Rattle.net_model.specs.Forms.Steps.{AreMarked}
use Rattle.net_model.proofs.CliqueMarks.{first_marked, marked_same, marked_more}
use Rattle.net_model.proofs.clique.keep_first.Goals as goal
use Rattle.net_model.proofs.clique.keep_first.Goals.{then-not-seen-node+in_ok-push, else-not-seen-node}

abbrev no_pin : Pin
no_pin = record { node = 0; dx = pos 0; dy = pos 0 }

pub loop-pin-preserved : goal.loop-pin-preserved
loop-pin-preserved c =
    let pins = c.args.pins.now in
    let seen = c.loop-pin.seen in
    let i = c.loop-pin.pin-index in
    let first = c.loop-pin.first.items in
    let kept = c.loop-pin.invariant.first in
    let marked = c.loop-pin.invariant.marked in
    let P : List Bool → Type 0 = AreMarked (take (i + 1) pins) in
    let inside : i < length pins = c.loop-pin-test.true in
    let there : (get_or pins i no_pin).node < length seen = omega (arith, c.requires.there i no_pin inside) in
    elim c.if-not-seen-node.branch [
      | then-not-seen-node+in_ok-push w ↦ record {
        first = ap (λ v. v.items) w.first-is ∙ w.in_ok-push.ensures.items ∙ first_marked pins first seen i no_pin false inside there kept marked w.if-not-seen-node.true;
        marked = subst P (sym w.seen-is) (marked_more pins seen i no_pin inside marked);
      }
      | else-not-seen-node w ↦ record {
        first = ap (λ v. v.items) w.first-is ∙ sym (append-nil first) ∙ first_marked pins first seen i no_pin true inside there kept marked w.if-not-seen-node.false;
        marked = subst P (sym w.seen-is) (marked_same pins seen i no_pin inside marked w.if-not-seen-node.false);
      }
    ]

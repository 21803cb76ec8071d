use Rattle.std.proofs.Common.{◌≡◌, take}
use Rattle.net_model.specs.Clique.{first_pins}
use Rattle.net_model.specs.Forms.Steps.{AreMarked}
use Rattle.net_model.proofs.clique.keep_first.Given as goal

abbrev pub invariant-loop-pin : goal.invariant-loop-pin
invariant-loop-pin l = record {
  first : l.first.items ≡ first_pins (take l.pin-index l.pins);
  marked : AreMarked (take l.pin-index l.pins) l.seen;
}

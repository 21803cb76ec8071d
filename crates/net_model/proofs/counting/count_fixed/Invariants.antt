use Rattle.std.proofs.Common.{◌≡◌, ◌≤◌, length, take}
use Rattle.std.specs.Prelude.{filter}
use Rattle.net_model.proofs.CountingTerms.{is_fixed}
use Rattle.net_model.proofs.counting.count_fixed.Given as goal

abbrev pub invariant-loop-pin : goal.invariant-loop-pin
invariant-loop-pin l = record {
  counted : l.fixed ≡ length (filter (is_fixed l.design) (take l.pin-index l.pins));
  few : l.fixed ≤ l.pin-index;
}

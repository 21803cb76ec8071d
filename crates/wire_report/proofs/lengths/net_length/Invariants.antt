use Rattle.std.proofs.Common.{map, take, get_or, pos}
use Rattle.wire_report.specs.Wire.{pin_x, pin_y}
use Rattle.wire_report.proofs.Extents.{IsExtent}
use Rattle.wire_report.proofs.lengths.net_length.Given as goal

abbrev pub invariant-loop-pin : goal.invariant-loop-pin
invariant-loop-pin l = record {
  across : IsExtent (pin_x l.design l.corners (get_or l.net.pins 0 (record { node = 0; dx = pos 0; dy = pos 0 }))) (map (pin_x l.design l.corners) (take l.pin-index l.others)) l.across;
  up : IsExtent (pin_y l.design l.corners (get_or l.net.pins 0 (record { node = 0; dx = pos 0; dy = pos 0 }))) (map (pin_y l.design l.corners) (take l.pin-index l.others)) l.up;
}

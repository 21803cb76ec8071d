use Rattle.std.proofs.Common.{◌≡◌, false, take}
use Rattle.std.specs.List.{list_any}
use Rattle.book_design.specs.declared.parts.Pin.{Pin}
use Rattle.book_design.specs.Points.{is_movable}
use Rattle.net_model.specs.Numbered.{node_at}
use Rattle.net_model.proofs.counting.has_movable.Given as goal

abbrev pub invariant-loop-pin : goal.invariant-loop-pin
invariant-loop-pin l = list_any (λ (pin : Pin). is_movable (node_at l.design pin.node)) (take l.pin-index l.pins) ≡ false

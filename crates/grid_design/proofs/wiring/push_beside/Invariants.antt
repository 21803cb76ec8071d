use Rattle.std.proofs.Common.{◌≡◌, ◌++◌, map}
use Rattle.std.specs.List.{range_with_len}
use Rattle.grid_design.specs.declared.parts.Node.TheVariants.{Terminal}
use Rattle.grid_design.specs.Parts.{net_of, cell_beside}
use Rattle.grid_design.proofs.wiring.push_beside.Given as goal

abbrev pub invariant-loop-number : goal.invariant-loop-number
invariant-loop-number l = l.nets.items ≡ l.initial.nets.items ++ map (λ number. net_of (Terminal l.side number) (cell_beside l.grid l.side number)) (range_with_len 0 l.number)

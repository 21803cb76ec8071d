use Rattle.std.proofs.Common.{◌≡◌, ◌++◌}
use Rattle.std.specs.List.{flat_map, range_with_len}
use Rattle.grid_design.specs.Parts.{nets_along, nets_across}
use Rattle.grid_design.proofs.wiring.nets_of.Given as goal

abbrev pub invariant-loop-row : goal.invariant-loop-row
invariant-loop-row l = l.nets.items ≡ flat_map (nets_along l.grid) (range_with_len 0 l.row)

abbrev pub invariant-loop-row-2 : goal.invariant-loop-row-2
invariant-loop-row-2 l = l.nets.items ≡ flat_map (nets_along l.grid) (range_with_len 0 l.grid.rows) ++ flat_map (nets_across l.grid) (range_with_len 0 l.row)

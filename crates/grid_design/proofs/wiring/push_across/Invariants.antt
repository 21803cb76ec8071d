use Rattle.std.proofs.Common.{◌≡◌, ◌+◌, ◌++◌, map}
use Rattle.std.specs.List.{range_with_len}
use Rattle.grid_design.specs.Parts.{net_of, cell_at}
use Rattle.grid_design.proofs.wiring.push_across.Given as goal

abbrev pub invariant-loop-column : goal.invariant-loop-column
invariant-loop-column l = l.nets.items ≡ l.initial.nets.items ++ map (λ column. net_of (cell_at l.grid l.row column) (cell_at l.grid (l.row + 1) column)) (range_with_len 0 l.column)

use Rattle.std.proofs.Common.{◌≡◌, ◌++◌}
use Rattle.std.specs.List.{flat_map, range_with_len}
use Rattle.grid_design.specs.Texts.{row_lines}
use Rattle.grid_design.proofs.design.scl_text.Given as goal

abbrev pub invariant-loop-row : goal.invariant-loop-row
invariant-loop-row l = l.text.items ≡ l.initial.text.items ++ flat_map (row_lines l.grid) (range_with_len 0 l.row)

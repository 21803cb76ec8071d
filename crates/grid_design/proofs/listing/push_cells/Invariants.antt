use Rattle.std.proofs.Common.{◌≡◌, ◌++◌, map}
use Rattle.std.specs.List.{range_with_len}
use Rattle.grid_design.specs.declared.parts.Node.TheVariants.{Cell}
use Rattle.grid_design.proofs.listing.push_cells.Given as goal

abbrev pub invariant-loop-number : goal.invariant-loop-number
invariant-loop-number l = l.nodes.items ≡ l.initial.nodes.items ++ map Cell (range_with_len 0 l.number)

use Rattle.std.proofs.Common.{◌≡◌, ◌++◌, map}
use Rattle.std.specs.List.{range_with_len}
use Rattle.grid_design.specs.declared.parts.Node.TheVariants.{Terminal}
use Rattle.grid_design.proofs.listing.push_terminals.Given as goal

abbrev pub invariant-loop-number : goal.invariant-loop-number
invariant-loop-number l = l.nodes.items ≡ l.initial.nodes.items ++ map (Terminal l.side) (range_with_len 0 l.number)

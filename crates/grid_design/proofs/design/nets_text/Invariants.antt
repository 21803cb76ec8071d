use Rattle.std.proofs.Common.{◌≡◌, ◌++◌, take}
use Rattle.grid_design.specs.Texts.{net_lines_from}
use Rattle.grid_design.proofs.design.nets_text.Given as goal

abbrev pub invariant-loop-number : goal.invariant-loop-number
invariant-loop-number l = l.text.items ≡ l.initial.text.items ++ net_lines_from 0 (take l.number l.nets)

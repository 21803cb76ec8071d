use Rattle.std.proofs.Common.{◌≡◌, ◌++◌}
use Rattle.std.specs.List.{flat_map, range_with_len}
use Rattle.grid_design.specs.Weights.{state}
use Rattle.grid_design.specs.Texts.{weight_line}
use Rattle.grid_design.proofs.design.wts_text.Given as goal

abbrev pub invariant-loop-net : goal.invariant-loop-net
invariant-loop-net l = (l.state ≡ state l.number l.net) × (l.text.items ≡ l.initial.text.items ++ flat_map (weight_line l.number) (range_with_len 0 l.net))

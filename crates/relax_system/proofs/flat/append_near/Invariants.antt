use Rattle.std.proofs.Common.{◌≡◌, ◌++◌, map, take}
use Rattle.relax_system.proofs.flat.append_near.Given as goal

abbrev pub invariant-loop-entry : goal.invariant-loop-entry
invariant-loop-entry l = record {
  numbers : l.numbers.items ≡ l.fn.numbers.items ++ map (λ n. n.point) (take l.entry-index l.near);
  weights : l.weights.items ≡ l.fn.weights.items ++ map (λ n. n.weight) (take l.entry-index l.near);
}

use Rattle.std.proofs.Common.{◌≡◌, ◌≤◌, eqb, get_or, length, take}
use Rattle.std.specs.Prelude.{filter}
use Rattle.level_run.proofs.projection.count_at.Given as goal

abbrev pub invariant-loop-entry : goal.invariant-loop-entry
invariant-loop-entry l = record {
  counted : l.count ≡ length (filter (λ n. eqb (get_or l.homes n.point 0) l.home) (take l.entry-index l.near));
  few : l.count ≤ l.entry-index;
}

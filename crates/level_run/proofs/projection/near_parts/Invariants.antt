use Rattle.std.proofs.Common.{◌≡◌, take}
use Rattle.std.specs.Prelude.{map, sum_by}
use Rattle.area_cut.specs.Regions.{region_of}
use Rattle.level_run.specs.LevelSystem.{as_neighbour, inside, outside, near_pull}
use Rattle.level_run.proofs.projection.near_parts.Given as goal

abbrev pub invariant-loop-entry : goal.invariant-loop-entry
invariant-loop-entry l = record {
  variables : l.variables ≡ map as_neighbour (inside l.regions l.p (take l.entry-index l.near));
  anchor : l.anchor ≡ sum_by (λ n. n.weight) (outside l.regions l.p (take l.entry-index l.near));
  pull : l.pull ≡ near_pull l.axis l.regions l.mids (region_of l.regions l.p) (outside l.regions l.p (take l.entry-index l.near));
}

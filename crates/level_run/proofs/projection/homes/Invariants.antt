use Rattle.std.proofs.Common.{◌≡◌, ℕ, ◌<◌, get_or, length}
use Rattle.area_cut.specs.Regions.{home_of}
use Rattle.level_run.proofs.projection.homes.Given as goal

abbrev pub invariant-loop-number : goal.invariant-loop-number
invariant-loop-number l = record {
  long : length l.homes.items ≡ l.points;
  each : (p : ℕ) → p < l.points → home_of l.regions p < l.number → get_or l.homes.items p 0 ≡ home_of l.regions p;
}

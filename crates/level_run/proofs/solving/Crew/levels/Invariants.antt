use Rattle.std.proofs.Common.{◌+◌}
use Rattle.level_run.specs.Levels.{AreRounds}
use Rattle.level_run.proofs.solving.Crew.levels.Given as goal

abbrev pub invariant-loop-r : goal.invariant-loop-r
invariant-loop-r g l = AreRounds l.network l.rounds.passes (l.r + 1) l.levels

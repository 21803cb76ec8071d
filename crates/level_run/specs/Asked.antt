-- The rounds that options ask for.
use Rattle.level_run.specs.declared.hierarchy.Options.{Options}
use Rattle.level_run.specs.declared.rounds.Rounds.{Rounds}

abbrev pub rounds_of : Options → Rounds
rounds_of options = record { levels = options.levels; passes = options.passes }

-- The command that the program is, as a simple one of `clap`.
use Rattle.std.specs.Prelude.{Some, codes}
use Rattle.clap.specs.Words.{App, Rule, new_app, new_rule, with_rule}
use Rattle.clap.specs.declared.builder.value_parser.ValueParser.TheVariants.{Unsigned}
use Rattle.relax_crew.specs.declared.range.TheConstants.{MOST_SEATS}
use Rattle.level_run.specs.declared.rounds.TheConstants.{MOST_LEVELS, MOST_PASSES}

-- `--levels`, with a whole number from 0 to 12
abbrev pub levels_rule : Rule
levels_rule = record (new_rule (codes "levels")) { long = Some (codes "levels"); parser = Some (Unsigned 0 MOST_LEVELS) }

-- `--passes`, with a whole number from 1 to 8
abbrev pub passes_rule : Rule
passes_rule = record (new_rule (codes "passes")) { long = Some (codes "passes"); parser = Some (Unsigned 1 MOST_PASSES) }

-- `--seats`, with a whole number from 1 to 64
abbrev pub seats_rule : Rule
seats_rule = record (new_rule (codes "seats")) { long = Some (codes "seats"); parser = Some (Unsigned 1 MOST_SEATS) }

-- `--out`, with the name of the output file
abbrev pub out_rule : Rule
out_rule = record (new_rule (codes "out")) { long = Some (codes "out") }

-- `--schedule`, with the name of a schedule file
abbrev pub schedule_rule : Rule
schedule_rule = record (new_rule (codes "schedule")) { long = Some (codes "schedule") }

-- `--grid`, with the word of a grid
abbrev pub grid_rule : Rule
grid_rule = record (new_rule (codes "grid")) { long = Some (codes "grid") }

-- DESIGN, which no option names
abbrev pub design_rule : Rule
design_rule = new_rule (codes "DESIGN")

abbrev pub proud_command : App
proud_command = with_rule (with_rule (with_rule (with_rule (with_rule (with_rule (with_rule (new_app (codes "proud")) levels_rule) passes_rule) seats_rule) out_rule) schedule_rule) grid_rule) design_rule

-- A request of the code, as the value that definitions speak of.
use Rattle.std.specs.Prelude.{option_map, string_bytes}
use Rattle.proud_words.specs.declared.request.Request.{Request}
use Rattle.proud_words.specs.declared.request.Source.{Source}
use Rattle.proud_words.specs.declared.request.Source.TheVariants.{Design, Grid}
use Rattle.proud_words.specs.Request.{RequestValue, SourceValue, of_design, of_grid}

abbrev pub source_value : Source → SourceValue
source_value (Design name) = of_design (string_bytes name)
source_value (Grid grid) = of_grid grid

abbrev pub request_value : Request → RequestValue
request_value request = record { rounds = request.rounds; seats = request.seats; out = string_bytes request.out; schedule = option_map string_bytes request.schedule; source = source_value request.source }

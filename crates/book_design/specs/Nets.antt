-- The nets of a design as contracts see them.
use Rattle.std.specs.Prelude.{List, map}
use Rattle.book_design.specs.declared.parts.Net.{Net}
use Rattle.book_design.specs.Values.{NetValue}

abbrev pub net_value : Net → NetValue
net_value n = record { weight = n.weight; pins = n.pins }

abbrev pub net_values : List Net → List NetValue
net_values nets = map net_value nets

-- The words of the lines, as they are handed to what writes them.
use Rattle.std.specs.Prelude.{ℕ, List, decimal}
use Rattle.grid_design.specs.declared.line.Word.{Word}
use Rattle.grid_design.specs.declared.line.Word.TheVariants.{Text, Number, Node, Net}
use Rattle.grid_design.specs.Parts.{name_of}
use Rattle.grid_design.specs.Texts.{net_name}

abbrev pub word_text : Word → List ℕ
word_text (Text word) = word.now
word_text (Number number) = decimal number
word_text (Node node) = name_of node
word_text (Net number) = net_name number

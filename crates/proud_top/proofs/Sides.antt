-- A grid that is asked for has its sides in their ranges.
use Rattle.std.proofs.Common.{ℕ, List}
use Rattle.std.specs.Prelude.{Option, Some, None}
use Rattle.proud_words.specs.Request.{RequestValue, SourceValue, of_design, of_grid, IsSource, IsRequest}
use Rattle.proud_top.specs.Forms.Sources.{HasGoodSides}

sides_of : (design word : Option (List ℕ)) (source : SourceValue) → IsSource design word source → HasGoodSides source
sides_of design word (of_design name) h = tt
sides_of None (Some word) (of_grid grid) h = (h.rows, h.columns)
sides_of None None (of_grid grid) h = absurd h
sides_of (Some design) None (of_grid grid) h = absurd h
sides_of (Some design) (Some word) (of_grid grid) h = absurd h

pub good_sides : (words : List (List ℕ)) (request : RequestValue) → IsRequest words request → HasGoodSides request.source
good_sides words request h = sides_of _ _ request.source h.reading.source

-- The placement file: a header, and a line per placed node.
use Rattle.std.specs.Prelude.{ℕ, Bool, true, false, List, codes, Option, Some, None, if◌then◌else◌}
use Rattle.book_files.specs.declared.orient.Orient.{Orient}
use Rattle.book_files.specs.declared.orient.Orient.TheVariants.{N, S, E, W, FN, FS, FE, FW}
use Rattle.book_files.specs.Words.{is_keyword}
use Rattle.book_files.specs.Entries.{PlaceEntry}

-- what a line of a placement file is
pub data PlaceItem : Type 0 where
  header : PlaceItem
  placed : PlaceEntry → PlaceItem

abbrev pub place_in : PlaceItem → Option PlaceEntry
place_in header = None
place_in (placed entry) = Some entry

-- one of the eight keywords
abbrev pub orient_of : List ℕ → Option Orient
orient_of word =
    if is_keyword (codes "n") word then Some N else if is_keyword (codes "s") word then Some S
    else if is_keyword (codes "e") word then Some E else if is_keyword (codes "w") word then Some W
    else if is_keyword (codes "fn") word then Some FN else if is_keyword (codes "fs") word then Some FS
    else if is_keyword (codes "fe") word then Some FE else if is_keyword (codes "fw") word then Some FW else None

-- a mark of a fixed node: whether the node allows overlap
abbrev pub place_mark : List ℕ → Option Bool
place_mark word = if is_keyword (codes "/fixed") word then Some false else if is_keyword (codes "/fixed_ni") word then Some true else None

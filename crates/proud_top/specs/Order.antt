-- The order in which the files of a design are read, and the schedule behind them.
use Rattle.std.specs.Prelude.{ℕ, ◌+◌, List, Option, Some, None, option_map}
use Rattle.book_files.specs.declared.records.FileKind.{FileKind}
use Rattle.book_files.specs.declared.records.FileKind.TheVariants.{Aux, Nodes, Nets, Wts, Pl, Scl, Schedule}
use Rattle.book_files.specs.Entries.{AuxEntry}
use Rattle.proud_top.specs.Beside.{beside}

-- a file is read before those of a higher rank
abbrev pub rank : FileKind → ℕ
rank Aux = 0
rank Nodes = 1
rank Nets = 2
rank Wts = 3
rank Pl = 4
rank Scl = 5
rank Schedule = 6

-- The name of the file of the kind: the design's word for the aux file, and what that file names for the others. It may name no weights,
-- and never names a schedule.
abbrev pub name_of : List ℕ → AuxEntry → FileKind → Option (List ℕ)
name_of word names Aux = Some word
name_of word names Nodes = Some (beside word names.nodes)
name_of word names Nets = Some (beside word names.nets)
name_of word names Wts = option_map (beside word) names.wts
name_of word names Pl = Some (beside word names.pl)
name_of word names Scl = Some (beside word names.scl)
name_of word names Schedule = None

-- how many files of weights there are
abbrev pub weight_files : Option (List ℕ) → ℕ
weight_files None = 0
weight_files (Some name) = 1

-- the how manieth the file of the kind is among those that are read, counted from 1
abbrev pub nth_of : AuxEntry → FileKind → ℕ
nth_of names Aux = 1
nth_of names Nodes = 2
nth_of names Nets = 3
nth_of names Wts = 4
nth_of names Pl = 4 + weight_files names.wts
nth_of names Scl = 5 + weight_files names.wts
nth_of names Schedule = 6 + weight_files names.wts

-- The aux file: one line with the names of the other files.
use Rattle.std.specs.Prelude.{ℕ, List, [], ◌∷◌, codes, Option, Some, None, Result, Ok, Err, if◌then◌else◌}
use Rattle.std.specs.List.{list_all}
use Rattle.book_text.specs.Lines.{NumberedLine}
use Rattle.book_files.specs.declared.fault.TextKind.{TextKind}
use Rattle.book_files.specs.declared.fault.TextKind.TheVariants.{BadHeader, BadLine}
use Rattle.book_files.specs.Forms.Form.{Form}
use Rattle.book_files.specs.Words.{is_keyed}
use Rattle.book_files.specs.Entries.{AuxEntry}
use Rattle.book_files.specs.Aux.{is_file_name, named, behind_two}

-- none or one of these
abbrev pub at_most_one : List (List ℕ) → Result (Option (List ℕ)) TextKind
at_most_one [] = Ok None
at_most_one (name ∷ []) = Ok (Some name)
at_most_one (name ∷ other ∷ names) = Err BadLine

-- the one of these
abbrev pub only : List (List ℕ) → Result (List ℕ) TextKind
only [] = Err BadLine
only (name ∷ []) = Ok name
only (name ∷ other ∷ names) = Err BadLine

-- four of the suffixes stand exactly once, and `.wts` at most once
abbrev pub aux_of : List (List ℕ) → List (List ℕ) → List (List ℕ) → List (List ℕ) → List (List ℕ) → Result AuxEntry TextKind
aux_of (nodes ∷ []) (nets ∷ []) [] (pl ∷ []) (scl ∷ []) = Ok (record { nodes = nodes; nets = nets; wts = None; pl = pl; scl = scl })
aux_of (nodes ∷ []) (nets ∷ []) (wts ∷ []) (pl ∷ []) (scl ∷ []) = Ok (record { nodes = nodes; nets = nets; wts = Some wts; pl = pl; scl = scl })
aux_of nodes nets wts pl scl = Err BadLine

abbrev pub aux_by_suffix : List (List ℕ) → Result AuxEntry TextKind
aux_by_suffix names = aux_of (named (codes ".nodes") names) (named (codes ".nets") names) (named (codes ".wts") names) (named (codes ".pl") names) (named (codes ".scl") names)

abbrev pub names_of : List (List ℕ) → Result AuxEntry TextKind
names_of names = if list_all is_file_name names then aux_by_suffix names else Err BadLine

-- the first line has the names, and any further line is bad
abbrev pub aux_meaning : List AuxEntry → NumberedLine → Result AuxEntry TextKind
aux_meaning [] line = if is_keyed (codes "rowbasedplacement") line.words then names_of (behind_two line.words) else Err BadHeader
aux_meaning (entry ∷ entries) line = Err BadLine

abbrev pub aux_ending : List AuxEntry → Result AuxEntry TextKind
aux_ending [] = Err BadHeader
aux_ending (entry ∷ entries) = Ok entry

abbrev pub aux_form : Form AuxEntry AuxEntry
aux_form = record { meaning = aux_meaning; ending = aux_ending }

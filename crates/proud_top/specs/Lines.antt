-- The lines that tell why there is no placement.
use Rattle.std.specs.Prelude.{ℕ, List, [], ◌∷◌, ◌++◌, codes, decimal}
use Rattle.book_files.specs.declared.records.FileKind.{FileKind}
use Rattle.book_files.specs.declared.records.FileKind.TheVariants.{Aux, Nodes, Nets, Wts, Pl, Scl, Schedule}
use Rattle.book_files.specs.declared.loading.TheConstants.{MOST_BYTES}
use Rattle.book_files.specs.declared.fault.TextKind.{TextKind}
use Rattle.book_files.specs.declared.fault.TextKind.TheVariants.{BadHeader, BadLine, BadNumber, CountMismatch}
use Rattle.book_design.specs.declared.fault.DesignFault.{DesignFault}
use Rattle.book_design.specs.declared.fault.DesignFault.TheVariants.{DuplicateName, UnknownName, NoPosition, NoRows, MixedRows, RowsOverlap, TallCell, Limit}
use Rattle.net_model.specs.declared.fault.NetFault.{NetFault}
use Rattle.net_model.specs.declared.fault.NetFault.TheVariants.{TooManyEdges, Heavy}
use Rattle.proud_top.specs.declared.status.Refusal.{Refusal}
use Rattle.proud_top.specs.declared.status.Refusal.TheVariants.{TooLong, Text, Design, Net, Unanchored, NoRoom}

-- how a kind of file is printed
abbrev pub kind_text : FileKind → List ℕ
kind_text Aux = codes "aux"
kind_text Nodes = codes "nodes"
kind_text Nets = codes "nets"
kind_text Wts = codes "wts"
kind_text Pl = codes "pl"
kind_text Scl = codes "scl"
kind_text Schedule = codes "schedule"

-- the byte 10 ends a line
abbrev pub ended : List ℕ → List ℕ
ended text = text ++ 10 ∷ []

abbrev pub usage_line : List ℕ
usage_line = ended (codes "usage: proud [--levels N] [--passes N] [--seats N] [--out FILE] [--schedule FILE] (DESIGN | --grid R,C,K)")

abbrev pub cannot_read_line : FileKind → List ℕ
cannot_read_line kind = ended (codes "proud: cannot read " ++ kind_text kind)

abbrev pub count_cause : ℕ → ℕ → List ℕ
count_cause told found = codes "count " ++ decimal told ++ codes " but " ++ decimal found

-- what is wrong with a line of a file
abbrev pub text_cause : TextKind → List ℕ
text_cause BadHeader = codes "bad header"
text_cause BadLine = codes "bad line"
text_cause BadNumber = codes "bad number"
text_cause (CountMismatch told found) = count_cause told found

-- the subject of a line: a node by its name, or a net by its number in the file
abbrev pub node_subject : List ℕ → List ℕ
node_subject name = codes "node " ++ name

abbrev pub net_subject : ℕ → List ℕ
net_subject number = codes "net " ++ decimal number

-- what is wrong with a subject or a row
abbrev pub subject_cause : List ℕ → List ℕ → List ℕ
subject_cause subject wrong = subject ++ codes ": " ++ wrong

abbrev pub row_cause : ℕ → List ℕ → List ℕ
row_cause row wrong = codes "row " ++ decimal row ++ codes ": " ++ wrong

-- a line of a file
abbrev pub line_place : FileKind → ℕ → List ℕ
line_place kind line = kind_text kind ++ codes ":" ++ decimal line ++ codes ": "

-- a quantity past its limit
abbrev pub limit_cause : ℕ → ℕ → List ℕ
limit_cause kind number = codes "limit " ++ decimal kind ++ codes " " ++ decimal number

-- what is wrong with the files together; the subject is what the fault names
abbrev pub design_cause : DesignFault → List ℕ → List ℕ
design_cause (DuplicateName line) subject = line_place Nodes line ++ codes "name given twice"
design_cause (UnknownName file line) subject = line_place file line ++ codes "unknown name"
design_cause (NoPosition node) subject = subject_cause subject (codes "no position")
design_cause NoRows subject = codes "no rows"
design_cause (MixedRows row) subject = row_cause row (codes "mixed rows")
design_cause (RowsOverlap row) subject = row_cause row (codes "overlaps")
design_cause (TallCell node) subject = subject_cause subject (codes "taller than a row")
design_cause (Limit kind number) subject = limit_cause kind number

-- nets that make too many pair terms
abbrev pub edges_cause : ℕ → List ℕ
edges_cause number = codes "too many edges: " ++ decimal number

-- what is wrong with the nets; the subject is what the fault names
abbrev pub net_cause : NetFault → List ℕ → List ℕ
net_cause (TooManyEdges number) subject = edges_cause number
net_cause (Heavy point) subject = subject_cause subject (codes "too heavy")

-- what is wrong with the size of a file
abbrev pub size_cause : FileKind → List ℕ → ℕ → List ℕ
size_cause kind wrong bytes = kind_text kind ++ codes ": " ++ wrong ++ codes " " ++ decimal bytes ++ codes " bytes"

-- a cell for which no segment has the room
abbrev pub room_cause : List ℕ → ℕ → ℕ → List ℕ
room_cause subject sites largest = subject ++ (codes ": no room for " ++ (decimal sites ++ (codes " sites, " ++ (decimal largest ++ codes " left"))))

abbrev pub cause_text : Refusal → List ℕ → List ℕ
cause_text (TooLong kind) subject = size_cause kind (codes "longer than") MOST_BYTES
cause_text (Text kind fault) subject = line_place kind fault.line ++ text_cause fault.kind
cause_text (Design fault) subject = design_cause fault subject
cause_text (Net fault) subject = net_cause fault subject
cause_text (Unanchored point) subject = subject_cause subject (codes "reaches no pad")
cause_text (NoRoom cell sites largest) subject = room_cause subject sites largest

-- the line of a refusal; the subject is what it names
abbrev pub refusal_line : Refusal → List ℕ → List ℕ
refusal_line refusal subject = ended (codes "proud: " ++ cause_text refusal subject)

-- Which files of a folder are accepted, and which file is the first that may not be.
use Rattle.std.specs.Prelude.{◌≡◌, ℕ, ◌+◌, ◌-◌, ◌^◌, ◌<◌, ◌≤◌, min, List, length, Option, Some, None, IsSome}
use Rattle.book_outer.specs.Files.{FileEntry, content}
use Rattle.book_outer.specs.State.{FolderState}
use Rattle.book_files.specs.declared.records.FileKind.{FileKind}
use Rattle.book_files.specs.declared.records.FileKind.TheVariants.{Aux, Nodes, Nets, Wts, Pl, Scl, Schedule}
use Rattle.book_files.specs.declared.fault.TextFault.{TextFault}
use Rattle.book_files.specs.Entries.{AuxEntry, NodeEntry, NetEntry, WeightEntry, PlaceEntry, RowEntry}
use Rattle.book_files.specs.Grammar.{Grammar, IsReading, IsFirstFault}
use Rattle.book_files.specs.AuxRules.{aux_grammar}
use Rattle.book_files.specs.NodeRules.{nodes_grammar}
use Rattle.book_files.specs.NetRules.{nets_grammar}
use Rattle.book_files.specs.WeightRules.{weights_grammar}
use Rattle.book_files.specs.PlaceRules.{places_grammar}
use Rattle.book_files.specs.RowRules.{rows_grammar}
use Rattle.book_files.specs.ScheduleRules.{schedule_grammar}
use Rattle.book_files.specs.declared.schedule.Event.{Event}
use Rattle.book_files.specs.Loading.{HasLongText}
use Rattle.book_files.specs.declared.loading.TheConstants.{MOST_BYTES}
use Rattle.book_design.specs.Records.{Records}
use Rattle.proud_top.specs.Beside.{beside}
use Rattle.proud_top.specs.Order.{rank, name_of, nth_of}

-- the file is there, isn't too long, and reads as the records
pub record Reads {I R : Type 0} (files : List FileEntry) (name : List ℕ) (grammar : Grammar I R) (records : R) : Type 0 where
  pub text : List ℕ
  pub there : content files name ≡ Some text
  pub short : length text ≤ MOST_BYTES
  pub reading : IsReading grammar text records

-- There are weights exactly where the aux file names a file of weights, and that file reads as them.
abbrev pub ReadsWeights : List FileEntry → List ℕ → Option (List ℕ) → Option (List WeightEntry) → Type 0
ReadsWeights files word None None = Unit {0}
ReadsWeights files word None (Some weights) = ⊥
ReadsWeights files word (Some name) None = ⊥
ReadsWeights files word (Some name) (Some weights) = Reads files (beside word name) weights_grammar weights

-- the aux file and the files that it names are accepted, and hold these records
pub record Accepts (files : List FileEntry) (word : List ℕ) (names : AuxEntry) (records : Records) : Type 0 where
  pub aux : Reads files word aux_grammar names
  pub nodes : Reads files (beside word names.nodes) nodes_grammar records.nodes
  pub nets : Reads files (beside word names.nets) nets_grammar records.nets
  pub weights : ReadsWeights files word names.wts records.weights
  pub pl : Reads files (beside word names.pl) places_grammar records.places
  pub scl : Reads files (beside word names.scl) rows_grammar records.rows

-- the text of the kind reads as some records
abbrev pub IsReadable : FileKind → List ℕ → Type 0
IsReadable Aux text = (names : AuxEntry) × IsReading aux_grammar text names
IsReadable Nodes text = (nodes : List NodeEntry) × IsReading nodes_grammar text nodes
IsReadable Nets text = (nets : List NetEntry) × IsReading nets_grammar text nets
IsReadable Wts text = (weights : List WeightEntry) × IsReading weights_grammar text weights
IsReadable Pl text = (places : List PlaceEntry) × IsReading places_grammar text places
IsReadable Scl text = (rows : List RowEntry) × IsReading rows_grammar text rows
IsReadable Schedule text = (events : List Event) × IsReading schedule_grammar text events

-- the file of the kind alone is accepted
pub record IsAccepted (files : List FileEntry) (name : List ℕ) (kind : FileKind) : Type 0 where
  pub text : List ℕ
  pub there : content files name ≡ Some text
  pub short : length text ≤ MOST_BYTES
  pub readable : IsReadable kind text

-- The file of the kind is the next to be read: the aux file, or one that it names; each file before it is accepted; it has this name,
-- and is the nth of the files that are read, counted from 1.
pub record IsNextFile (files : List FileEntry) (word : List ℕ) (kind : FileKind) (name : List ℕ) (nth : ℕ) : Type 0 where
  pub names : AuxEntry
  pub aux : 0 < rank kind → Reads files word aux_grammar names
  pub accepted : (before : FileKind) (path : List ℕ) → rank before < rank kind → name_of word names before ≡ Some path → IsAccepted files path before
  pub named : name_of word names kind ≡ Some name
  pub counted : nth ≡ nth_of names kind

-- the first fault of a text of the kind
abbrev pub IsFaultOf : FileKind → List ℕ → TextFault → Type 0
IsFaultOf Aux text fault = IsFirstFault aux_grammar text fault
IsFaultOf Nodes text fault = IsFirstFault nodes_grammar text fault
IsFaultOf Nets text fault = IsFirstFault nets_grammar text fault
IsFaultOf Wts text fault = IsFirstFault weights_grammar text fault
IsFaultOf Pl text fault = IsFirstFault places_grammar text fault
IsFaultOf Scl text fault = IsFirstFault rows_grammar text fault
IsFaultOf Schedule text fault = IsFirstFault schedule_grammar text fault

-- the file of the name is there, isn't too long, and has this first fault of a text of the kind
pub record HasBadText (files : List FileEntry) (name : List ℕ) (kind : FileKind) (fault : TextFault) : Type 0 where
  pub text : List ℕ
  pub there : content files name ≡ Some text
  pub short : length text ≤ MOST_BYTES
  pub faulty : IsFaultOf kind text fault

-- the file of the kind is the next, and has more bytes than a file may have
pub record IsTooLong (files : List FileEntry) (word : List ℕ) (kind : FileKind) : Type 0 where
  pub name : List ℕ
  pub nth : ℕ
  pub next : IsNextFile files word kind name nth
  pub long : HasLongText files name

-- the file of the kind is the next, isn't too long, and has this first fault
pub record IsBadText (files : List FileEntry) (word : List ℕ) (kind : FileKind) (fault : TextFault) : Type 0 where
  pub name : List ℕ
  pub nth : ℕ
  pub next : IsNextFile files word kind name nth
  pub text : List ℕ
  pub there : content files name ≡ Some text
  pub short : length text ≤ MOST_BYTES
  pub faulty : IsFaultOf kind text fault

-- so many files were begun, unless the count stands at the greatest u64
abbrev pub HasBegun : FolderState → FolderState → ℕ → Type 0
HasBegun old new n = new.begun ≡ min (old.begun + n) (2 ^ 64 - 1)

-- A fault stands at the file of the kind: that file was the next, and was the last that was begun. Where it is there, no absent
-- file was begun.
pub record IsFaultAt (files : List FileEntry) (word : List ℕ) (kind : FileKind) (old new : FolderState) : Type 0 where
  pub name : List ℕ
  pub nth : ℕ
  pub next : IsNextFile files word kind name nth
  pub begun : HasBegun old new nth
  pub present : IsSome (content files name) → new.missed ≡ old.missed

-- The file of the kind was the next, and was the last that was begun; and none of those was absent.
pub record IsLast (files : List FileEntry) (word : List ℕ) (kind : FileKind) (old new : FolderState) : Type 0 where
  pub name : List ℕ
  pub nth : ℕ
  pub next : IsNextFile files word kind name nth
  pub begun : HasBegun old new nth
  pub present : new.missed ≡ old.missed

-- The texts of a design's files, as contracts see them.
use Rattle.std.specs.Prelude.{◌≡◌, ℕ, ◌≤◌, List, length, Option, Some, None, IfSome, Result, Ok, Err}
use Rattle.book_outer.specs.Files.{FileEntry, content}
use Rattle.book_files.specs.declared.records.FileKind.{FileKind}
use Rattle.book_files.specs.declared.records.FileKind.TheVariants.{Nodes, Nets, Wts, Pl, Scl}
use Rattle.book_files.specs.declared.fault.TextFault.{TextFault}
use Rattle.book_files.specs.declared.fault.ReadError.{ReadError}
use Rattle.book_files.specs.declared.fault.ReadError.TheVariants as read_error
use Rattle.book_text.specs.declared.memory.Memory.{Memory as NoMemory}
use Rattle.book_files.specs.Entries.{AuxEntry}
use Rattle.book_files.specs.AuxRules.{aux_grammar}
use Rattle.book_files.specs.declared.loading.TheConstants.{MOST_BYTES}
use Rattle.book_design.specs.Records.{Records}
use Rattle.level_run.specs.declared.rounds.Rounds.{Rounds}
use Rattle.proud_top.specs.declared.status.Refusal.{Refusal}
use Rattle.proud_top.specs.Beside.{beside}
use Rattle.proud_top.specs.Accepted.{Reads, IsFaultOf}
use Rattle.proud_top.specs.Texts.{Texts, AreRecords}
use Rattle.proud_top.specs.Flow.{◌then◌, PlacedValue, places_records}

-- the text of the kind isn't too long and has no fault
pub record IsSoundText (kind : FileKind) (text : List ℕ) : Type 0 where
  pub short : length text ≤ MOST_BYTES
  pub clean : (fault : TextFault) → IsFaultOf kind text fault → ⊥

pub record AreSound (texts : Texts) : Type 0 where
  pub nodes : IsSoundText Nodes texts.nodes
  pub nets : IsSoundText Nets texts.nets
  pub wts : IfSome texts.wts (λ text. IsSoundText Wts text)
  pub pl : IsSoundText Pl texts.pl
  pub scl : IsSoundText Scl texts.scl

-- the reader named no fault
abbrev pub IsSound : {T : Type 0} → Result T ReadError → Type 0
IsSound (Ok records) = Unit {0}
IsSound (Err read_error.Memory) = Unit {0}
IsSound (Err (read_error.Fault fault)) = ⊥

abbrev pub IsSameRecords : {T : Type 0} → Result T ReadError → Result T NoMemory → Type 0
IsSameRecords (Ok records) (Ok same) = same ≡ records
IsSameRecords (Ok records) (Err memory) = ⊥
IsSameRecords (Err error) (Ok records) = ⊥
IsSameRecords (Err error) (Err memory) = Unit {0}

-- the step from the texts to their records, which have no fault
abbrev pub parses : Texts → Result Records Refusal → Type 0
parses texts (Ok records) = AreRecords texts records
parses texts (Err refusal) = ⊥

-- the flow from the texts on
abbrev pub places_texts : Rounds → Texts → Result PlacedValue Refusal → Type 0
places_texts rounds texts = parses texts then places_records rounds

-- the file of the name holds the text
pub record Holds (files : List FileEntry) (name text : List ℕ) : Type 0 where
  pub there : content files name ≡ Some text
  pub short : length text ≤ MOST_BYTES

abbrev pub HoldsWeights : List FileEntry → List ℕ → Option (List ℕ) → Option (List ℕ) → Type 0
HoldsWeights files word None None = Unit {0}
HoldsWeights files word None (Some text) = ⊥
HoldsWeights files word (Some name) None = ⊥
HoldsWeights files word (Some name) (Some text) = Holds files (beside word name) text

-- the texts are those of the design's files, which its aux file names
pub record HasTexts (files : List FileEntry) (word : List ℕ) (texts : Texts) : Type 0 where
  pub names : AuxEntry
  pub aux : Reads files word aux_grammar names
  pub nodes : Holds files (beside word names.nodes) texts.nodes
  pub nets : Holds files (beside word names.nets) texts.nets
  pub wts : HoldsWeights files word names.wts texts.wts
  pub pl : Holds files (beside word names.pl) texts.pl
  pub scl : Holds files (beside word names.scl) texts.scl

-- The reading of the files one after another: what was read before each, and what each step answers.
use Rattle.std.specs.Prelude.{◌≡◌, ℕ, zero, suc, ◌<◌, ◌≤◌, List, length, Option, Some, None, IfSome, Result, Ok, Err, Vec}
use Rattle.std.specs.declared.alloc.Global.{Global}
use Rattle.book_outer.specs.Cause.{Rose, one_more}
use Rattle.book_outer.specs.Files.{FileEntry, content}
use Rattle.book_outer.specs.Folder.{missed_after}
use Rattle.book_outer.specs.State.{FolderState}
use Rattle.book_files.specs.declared.records.FileKind.{FileKind}
use Rattle.book_files.specs.declared.records.FileKind.TheVariants.{Wts}
use Rattle.book_files.specs.declared.fault.TextFault.{TextFault}
use Rattle.book_files.specs.declared.fault.ReadError.{ReadError}
use Rattle.book_files.specs.declared.fault.ReadError.TheVariants as read_error
use Rattle.book_files.specs.Entries.{AuxEntry}
use Rattle.book_files.specs.AuxRules.{aux_grammar}
use Rattle.book_files.specs.Loading.{HasLongText}
use Rattle.book_files.specs.declared.loading.TheConstants.{MOST_BYTES}
use Rattle.proud_top.specs.declared.status.Refusal.TheVariants.{TooLong, Text}
use Rattle.proud_top.specs.declared.stop.Stop.{Stop}
use Rattle.proud_top.specs.declared.stop.Stop.TheVariants.{ReadFault, Refused, Memory}
use Rattle.proud_top.specs.Beside.{beside}
use Rattle.proud_top.specs.Order.{rank, name_of, nth_of}
use Rattle.proud_top.specs.Accepted.{Reads, IsReadable, IsAccepted, IsFaultOf, HasBegun}
use Rattle.proud_top.specs.Statuses.{IsUntouched}
use Rattle.proud_top.specs.Forms.Inputs.{IsSoundText}
use Rattle.proud_top.specs.Forms.Stops.{StopsReading}

-- one file was begun
pub record BeginsOne (name : List ℕ) (old new : FolderState) : Type 0 where
  pub untouched : IsUntouched old new
  pub begun : new.begun ≡ one_more old.begun
  pub missed : new.missed ≡ missed_after old.files name old.missed

-- The bytes of the file of the kind; or that it is too long; or that it couldn't be read, after which the count of faults rose;
-- or want of memory. The count of faults is as before at any other answer than a fault.
abbrev pub Loads : FileKind → List ℕ → FolderState → FolderState → Result (Vec ℕ Global) Stop → Type 0
Loads kind name old new (Ok bytes) = BeginsOne name old new × IfSome old.files (λ known. content known name ≡ Some bytes.items) × (length bytes.items ≤ MOST_BYTES) × (new.read_faults ≡ old.read_faults)
Loads kind name old new (Err (Refused refusal)) = BeginsOne name old new × (refusal ≡ TooLong kind) × IfSome old.files (λ known. HasLongText known name) × (new.read_faults ≡ old.read_faults)
Loads kind name old new (Err (ReadFault other)) = BeginsOne name old new × (other ≡ kind) × Rose old.read_faults new.read_faults
Loads kind name old new (Err Memory) = BeginsOne name old new × (new.read_faults ≡ old.read_faults)

-- the text of the kind has no fault, or this is the first
abbrev pub Looks : FileKind → List ℕ → Result (Unit {0}) Stop → Type 0
Looks kind text (Ok done) = IsReadable kind text × ((fault : TextFault) → IsFaultOf kind text fault → ⊥)
Looks kind text (Err (Refused refusal)) = (fault : TextFault) × (refusal ≡ Text kind fault) × IsFaultOf kind text fault
Looks kind text (Err (ReadFault other)) = ⊥
Looks kind text (Err Memory) = Unit {0}

-- what a reader of files of the kind answers, as a look
abbrev pub IsLook : {T : Type 0} → FileKind → Result T ReadError → Result (Unit {0}) Stop → Type 0
IsLook kind (Ok records) (Ok done) = Unit {0}
IsLook kind (Err (read_error.Fault fault)) (Err (Refused refusal)) = refusal ≡ Text kind fault
IsLook kind (Err read_error.Memory) (Err Memory) = Unit {0}
IsLook kind (Ok records) (Err stop) = ⊥
IsLook kind (Err error) (Ok done) = ⊥
IsLook kind (Err (read_error.Fault fault)) (Err (ReadFault other)) = ⊥
IsLook kind (Err (read_error.Fault fault)) (Err Memory) = ⊥
IsLook kind (Err read_error.Memory) (Err (ReadFault other)) = ⊥
IsLook kind (Err read_error.Memory) (Err (Refused refusal)) = ⊥

-- so many files were begun
abbrev pub Began : FolderState → FolderState → ℕ → Type 0
Began old new zero = new.begun ≡ old.begun
Began old new (suc n) = HasBegun old new (suc n)

-- each file of a rank below n is accepted
abbrev pub AreAccepted : List FileEntry → List ℕ → AuxEntry → ℕ → Type 0
AreAccepted files word names n = (before : FileKind) (path : List ℕ) → rank before < n → name_of word names before ≡ Some path → IsAccepted files path before

-- each file of a rank below n was read, which were m, and nothing else of the folder has changed
pub record HasReadBelow (old new : FolderState) (word : List ℕ) (names : AuxEntry) (n m : ℕ) : Type 0 where
  pub untouched : IsUntouched old new
  pub read_faults : new.read_faults ≡ old.read_faults
  pub begun : Began old new m
  pub missed : IfSome old.files (λ known. new.missed ≡ old.missed)
  pub accepted : IfSome old.files (λ known. AreAccepted known word names n)

-- the names are those of the design's aux file
abbrev pub AreNames : FolderState → List ℕ → AuxEntry → Type 0
AreNames old word names = IfSome old.files (λ known. Reads known word aux_grammar names)

-- the file of the kind is the next, behind m files
pub record IsNext (old now : FolderState) (word : List ℕ) (names : AuxEntry) (kind : FileKind) (name : List ℕ) (m : ℕ) : Type 0 where
  pub below : HasReadBelow old now word names (rank kind) m
  pub aux : 0 < rank kind → AreNames old word names
  pub named : name_of word names kind ≡ Some name
  pub counted : nth_of names kind ≡ suc m

-- what the file holds
pub record IsText (old : FolderState) (name : List ℕ) (kind : FileKind) (text : List ℕ) : Type 0 where
  pub there : IfSome old.files (λ known. content known name ≡ Some text)
  pub sound : IsSoundText kind text
  pub readable : IsReadable kind text

-- the text of the next file, or what stopped the reading there
abbrev pub Steps : FolderState → FolderState → List ℕ → AuxEntry → FileKind → List ℕ → ℕ → Result (Vec ℕ Global) Stop → Type 0
Steps old new word names kind name m (Ok text) = IsText old name kind text.items × HasReadBelow old new word names (suc (rank kind)) (suc m)
Steps old new word names kind name m (Err stop) = StopsReading old new word stop

-- the next file, read from anywhere
abbrev pub Follows : FileKind → List ℕ → FolderState → FolderState → Result (Vec ℕ Global) Stop → Type 0
Follows kind name now new result = (old : FolderState) (word : List ℕ) (names : AuxEntry) (m : ℕ) → IsNext old now word names kind name m → Steps old new word names kind name m result

-- the texts of the files of weights, of which there may be none
abbrev pub StepsWeights : FolderState → FolderState → List ℕ → AuxEntry → Result (Option (Vec ℕ Global)) Stop → Option (List ℕ) → Type 0
StepsWeights old new word names (Err stop) wts = StopsReading old new word stop
StepsWeights old new word names (Ok None) None = HasReadBelow old new word names 4 3
StepsWeights old new word names (Ok (Some bytes)) None = ⊥
StepsWeights old new word names (Ok None) (Some name) = ⊥
StepsWeights old new word names (Ok (Some bytes)) (Some name) = IsText old (beside word name) Wts bytes.items × HasReadBelow old new word names 4 4

abbrev pub FollowsWeights : List ℕ → Option (List ℕ) → FolderState → FolderState → Result (Option (Vec ℕ Global)) Stop → Type 0
FollowsWeights word wts now new result = (old : FolderState) (names : AuxEntry) → names.wts ≡ wts → HasReadBelow old now word names 3 3 → AreNames old word names → StepsWeights old new word names result wts

-- What each status says: why it comes, and what stands then.
use Rattle.std.specs.Prelude.{◌≡◌, ◌⊎◌, ℕ, ◌<◌, List, length, take, Option, Some, None, IfSome, IsSome, Ok, Err, option_map}
use Rattle.std.specs.Io.KnownBytes.{Appends}
use Rattle.book_outer.specs.Cause.{Rose}
use Rattle.book_outer.specs.Files.{FileEntry, content, with_content}
use Rattle.book_outer.specs.State.{FolderState, SinkState}
use Rattle.book_files.specs.declared.records.FileKind.{FileKind}
use Rattle.book_files.specs.declared.records.FileKind.TheVariants.{Aux, Nodes, Nets, Wts, Pl, Scl, Schedule}
use Rattle.book_design.specs.Records.{Records}
use Rattle.book_design.specs.Values.{DesignValue}
use Rattle.book_design.specs.Answers.{IsJoined}
use Rattle.pad_reach.specs.Chain.{HasChain}
use Rattle.net_model.specs.Values.{NetworkValue}
use Rattle.net_model.specs.Network.{IsNetwork}
use Rattle.net_model.specs.Webs.{joints_of}
use Rattle.proud_top.specs.declared.status.Refusal.{Refusal}
use Rattle.proud_top.specs.declared.status.Status.{Status}
use Rattle.proud_top.specs.declared.status.Status.TheVariants.{Done, Usage, Refused, ReadFault, WriteFault, Memory}
use Rattle.proud_top.specs.declared.stop.Stop.{Stop}
use Rattle.proud_top.specs.declared.stop.Stop.TheVariants as stop
use Rattle.proud_top.specs.Lines.{usage_line, cannot_read_line, refusal_line}
use Rattle.level_run.specs.Rounds.{last_round}
use Rattle.level_run.specs.declared.level.Level.{Level}
use Rattle.level_run.specs.Levels.{IsLevels, level_at}
use Rattle.row_space.specs.Runs.{segments_of}
use Rattle.row_legal.specs.declared.parts.Place.{Place}
use Rattle.row_legal.specs.Cells.{CellsValue}
use Rattle.row_legal.specs.Places.{IsLegalised}
use Rattle.proud_words.specs.Request.{RequestValue, SourceValue, of_design, of_grid, IsRequest}
use Rattle.proud_top.specs.Accepted.{IsFaultAt, IsLast, HasBegun}
use Rattle.proud_top.specs.Wishes.{AreCells}
use Rattle.proud_top.specs.Placement.{IsLegalText}
use Rattle.proud_top.specs.Flow.{PlacedValue, reads, schedules, places, last_kind}
use Rattle.proud_top.specs.Named.{IsSubjectIn}

-- the status of a run that stopped before there was a placement
abbrev pub status_of : Stop → Status
status_of (stop.ReadFault kind) = ReadFault kind
status_of (stop.Refused refusal) = Refused refusal
status_of stop.Memory = Memory

-- Up to the file of the kind all were begun and none was absent, where the files are known; and no read fault was counted.
pub record HasReadUpTo (kind : FileKind) (word : List ℕ) (old new : FolderState) : Type 0 where
  pub begun : IfSome old.files (λ files. IsLast files word kind old new)
  pub reads : new.read_faults ≡ old.read_faults

-- nothing was read
pub record ReadsNothing (old new : FolderState) : Type 0 where
  pub begun : new.begun ≡ old.begun
  pub missed : new.missed ≡ old.missed
  pub read_faults : new.read_faults ≡ old.read_faults

-- Of a design the files up to that of the kind were read; for a grid nothing was.
abbrev pub HasRead : FileKind → SourceValue → FolderState → FolderState → Type 0
HasRead kind (of_design word) old new = HasReadUpTo kind word old new
HasRead kind (of_grid grid) old new = ReadsNothing old new

-- one more file was begun, and it is there where the files are known
pub record ReadsOneMore (old new : FolderState) : Type 0 where
  pub begun : HasBegun old new 1
  pub missed : new.missed ≡ old.missed
  pub read_faults : new.read_faults ≡ old.read_faults

-- the source's files were read, and then that of the schedule, where one is named
abbrev pub HasReadAll : SourceValue → Option (List ℕ) → FolderState → FolderState → Type 0
HasReadAll source None old new = HasRead Scl source old new
HasReadAll source (Some name) old new = (mid : FolderState) × HasRead Scl source old mid × ReadsOneMore mid new

-- all files up to that of the kind were read, of which that of the schedule is the last
abbrev pub HasReadTo : FileKind → SourceValue → Option (List ℕ) → FolderState → FolderState → Type 0
HasReadTo Aux source schedule old new = HasRead Aux source old new
HasReadTo Nodes source schedule old new = HasRead Nodes source old new
HasReadTo Nets source schedule old new = HasRead Nets source old new
HasReadTo Wts source schedule old new = HasRead Wts source old new
HasReadTo Pl source schedule old new = HasRead Pl source old new
HasReadTo Scl source schedule old new = HasRead Scl source old new
HasReadTo Schedule source schedule old new = HasReadAll source schedule old new

-- The words ask for a source that is placed as this, and its cells stand legally.
pub record IsPlacedAs (words : List (List ℕ)) (old new : FolderState) (placed : PlacedValue) : Type 0 where
  pub request : RequestValue
  pub asked : IsRequest words request
  pub flow : places old.files request.source request.schedule request.rounds (Ok placed)
  pub read : HasReadAll request.source request.schedule old new
  pub legal : IsLegalText (λ records. reads old.files request.source (Ok records)) placed.file

-- the words ask for a source that is refused by this
pub record IsCause (words : List (List ℕ)) (files : Option (List FileEntry)) (refusal : Refusal) : Type 0 where
  pub request : RequestValue
  pub asked : IsRequest words request
  pub flow : places files request.source request.schedule request.rounds (Err refusal)

-- and this is the line that says so, with the subject that the refusal names
pub record IsRefusal (words : List (List ℕ)) (old new : FolderState) (refusal : Refusal) (text : List ℕ) : Type 0 where
  pub cause : IsCause words old.files refusal
  pub read : HasReadTo (last_kind refusal) cause.request.source cause.request.schedule old new
  pub subject : List ℕ
  pub named : IsSubjectIn (λ records. reads old.files cause.request.source (Ok records)) refusal subject
  pub line : text ≡ refusal_line refusal subject

-- the source is the design of this word, and the fault stands at its file of the kind
pub record IsUnreadFile (kind : FileKind) (source : SourceValue) (old new : FolderState) : Type 0 where
  pub word : List ℕ
  pub design : source ≡ of_design word
  pub at : IfSome old.files (λ files. IsFaultAt files word kind old new)

-- A schedule is named, and the fault stands at its file: what the source reads as was accepted before, and where the file is there, no
-- absent file was begun.
pub record IsUnreadSchedule (source : SourceValue) (schedule : Option (List ℕ)) (old new : FolderState) : Type 0 where
  pub name : List ℕ
  pub named : schedule ≡ Some name
  pub before : FolderState
  pub read : HasRead Scl source old before
  pub accepted : (records : Records) × reads old.files source (Ok records)
  pub begun : HasBegun before new 1
  pub present : IfSome old.files (λ files. IsSome (content files name) → new.missed ≡ before.missed)

-- the fault stands at the file of the kind
abbrev pub IsUnreadAt : FileKind → SourceValue → Option (List ℕ) → FolderState → FolderState → Type 0
IsUnreadAt Aux source schedule old new = IsUnreadFile Aux source old new
IsUnreadAt Nodes source schedule old new = IsUnreadFile Nodes source old new
IsUnreadAt Nets source schedule old new = IsUnreadFile Nets source old new
IsUnreadAt Wts source schedule old new = IsUnreadFile Wts source old new
IsUnreadAt Pl source schedule old new = IsUnreadFile Pl source old new
IsUnreadAt Scl source schedule old new = IsUnreadFile Scl source old new
IsUnreadAt Schedule source schedule old new = IsUnreadSchedule source schedule old new

-- The words ask for a source, and a read fault was counted at the file of the kind.
pub record IsUnread (words : List (List ℕ)) (old new : FolderState) (kind : FileKind) (text : List ℕ) : Type 0 where
  pub request : RequestValue
  pub asked : IsRequest words request
  pub rose : Rose old.read_faults new.read_faults
  pub at : IsUnreadAt kind request.source request.schedule old new
  pub line : text ≡ cannot_read_line kind

-- the words ask for nothing
abbrev pub HasNoRequest : List (List ℕ) → Type 0
HasNoRequest words = (request : RequestValue) → IsRequest words request → ⊥

-- and this is the line that says so
pub record IsMisused (words : List (List ℕ)) (text : List ℕ) : Type 0 where
  pub none : HasNoRequest words
  pub line : text ≡ usage_line

-- the files are as before, and nothing was written
pub record IsUntouched (old new : FolderState) : Type 0 where
  pub files : new.files ≡ old.files
  pub write_faults : new.write_faults ≡ old.write_faults

-- The file of the name holds the text, and all others are as before. Where the files weren't known, they still aren't.
abbrev pub HasFile : List ℕ → List ℕ → FolderState → FolderState → Type 0
HasFile name text old new = new.files ≡ option_map (λ files. with_content files name text) old.files

-- the file of the name holds a front of the text
abbrev pub HasFront : List ℕ → List ℕ → FolderState → FolderState → Type 0
HasFront name text old new = (n : ℕ) × HasFile name (take n text) old new

-- the sink got a front of the text
abbrev pub GotFront : SinkState → SinkState → List ℕ → Type 0
GotFront old new text = (n : ℕ) × Appends old.written new.written (take n text)

-- The sink got the text, and no fault was counted; or it got a front of it, where the put failed.
abbrev pub Got : SinkState → SinkState → List ℕ → Type 0
Got old new text = (Appends old.written new.written text × (new.faults ≡ old.faults)) ⊎ (Rose old.faults new.faults × GotFront old new text)

-- why a status comes under which a line alone is put, and that line
abbrev pub IsDue : Status → List (List ℕ) → FolderState → FolderState → List ℕ → Type 0
IsDue Usage words old new line = IsMisused words line
IsDue (Refused refusal) words old new line = IsRefusal words old new refusal line
IsDue (ReadFault kind) words old new line = IsUnread words old new kind line
IsDue Done words old new line = ⊥
IsDue WriteFault words old new line = ⊥
IsDue Memory words old new line = ⊥

-- The output file holds the whole text of the placement, the report got the whole report, and no count of faults changed.
pub record IsDone (words : List (List ℕ)) (folder folder' : FolderState) (report report' : SinkState) : Type 0 where
  pub placed : PlacedValue
  pub due : IsPlacedAs words folder folder' placed
  pub file : HasFile due.request.out placed.file folder folder'
  pub got : Appends report.written report'.written placed.report
  pub writes : folder'.write_faults ≡ folder.write_faults
  pub puts : report'.faults ≡ report.faults

pub record IsUsage (words : List (List ℕ)) (folder folder' : FolderState) (report report' : SinkState) : Type 0 where
  pub line : List ℕ
  pub due : IsMisused words line
  pub untouched : IsUntouched folder folder'
  pub got : Got report report' line

pub record IsRefused (words : List (List ℕ)) (refusal : Refusal) (folder folder' : FolderState) (report report' : SinkState) : Type 0 where
  pub line : List ℕ
  pub due : IsRefusal words folder folder' refusal line
  pub untouched : IsUntouched folder folder'
  pub got : Got report report' line

pub record IsReadFault (words : List (List ℕ)) (kind : FileKind) (folder folder' : FolderState) (report report' : SinkState) : Type 0 where
  pub line : List ℕ
  pub due : IsUnread words folder folder' kind line
  pub untouched : IsUntouched folder folder'
  pub got : Got report report' line

-- The output file couldn't be made, or couldn't be written, and then nothing was put to the report; or it stands whole, and the
-- report couldn't be written.
pub data IsUnwritten (name : List ℕ) (placed : PlacedValue) (folder folder' : FolderState) (report report' : SinkState) : Type 0 where
  not_made : Rose folder.write_faults folder'.write_faults → folder'.files ≡ folder.files → report' ≡ report → IsUnwritten name placed folder folder' report report'
  not_put : Rose folder.write_faults folder'.write_faults → HasFront name placed.file folder folder' → report' ≡ report → IsUnwritten name placed folder folder' report report'
  not_reported : Rose report.faults report'.faults → HasFile name placed.file folder folder' → folder'.write_faults ≡ folder.write_faults
      → GotFront report report' placed.report → IsUnwritten name placed folder folder' report report'

pub record IsWriteFault (words : List (List ℕ)) (folder folder' : FolderState) (report report' : SinkState) : Type 0 where
  pub placed : PlacedValue
  pub due : IsPlacedAs words folder folder' placed
  pub unwritten : IsUnwritten due.request.out placed folder folder' report report'

-- How far what was placed had been put: the output file as before, or with a front of the text, and nothing put to the report; or
-- with the whole text, and a front of the report.
pub data IsPutUpTo (name : List ℕ) (placed : PlacedValue) (folder folder' : FolderState) (report report' : SinkState) : Type 0 where
  none_put : folder'.files ≡ folder.files → report' ≡ report → IsPutUpTo name placed folder folder' report report'
  file_put : HasFront name placed.file folder folder' → report' ≡ report → IsPutUpTo name placed folder folder' report report'
  report_put : HasFile name placed.file folder folder' → GotFront report report' placed.report → IsPutUpTo name placed folder folder' report report'

-- Where memory was wanting: before anything was put; in a line that was due under another status; or in what was placed.
pub data IsCutOff (words : List (List ℕ)) (folder folder' : FolderState) (report report' : SinkState) : Type 0 where
  cut_before : folder'.files ≡ folder.files → report' ≡ report → IsCutOff words folder folder' report report'
  cut_in_line : (status : Status) (line : List ℕ) → IsDue status words folder folder' line → folder'.files ≡ folder.files → GotFront report report' line
      → IsCutOff words folder folder' report report'
  cut_in_placement : (placed : PlacedValue) (due : IsPlacedAs words folder folder' placed) → IsPutUpTo due.request.out placed folder folder' report report'
      → IsCutOff words folder folder' report report'

-- and no write or put failed
pub record IsMemory (words : List (List ℕ)) (folder folder' : FolderState) (report report' : SinkState) : Type 0 where
  pub cut_off : IsCutOff words folder folder' report report'
  pub writes : folder'.write_faults ≡ folder.write_faults
  pub puts : report'.faults ≡ report.faults

-- what the status says
abbrev pub Says : Status → List (List ℕ) → FolderState → FolderState → SinkState → SinkState → Type 0
Says Done words folder folder' report report' = IsDone words folder folder' report report'
Says Usage words folder folder' report report' = IsUsage words folder folder' report report'
Says (Refused refusal) words folder folder' report report' = IsRefused words refusal folder folder' report report'
Says (ReadFault kind) words folder folder' report report' = IsReadFault words kind folder folder' report report'
Says WriteFault words folder folder' report report' = IsWriteFault words folder folder' report report'
Says Memory words folder folder' report report' = IsMemory words folder folder' report report'

-- The source that the words ask for can be placed: its texts have no fault, nor has the schedule, where one is named, nor what the texts
-- make; each point has a chain, and the greedy rule finds room for each cell.
pub record IsPlaceable (words : List (List ℕ)) (files : List FileEntry) : Type 0 where
  pub request : RequestValue
  pub records : Records
  pub design : DesignValue
  pub network : NetworkValue
  pub asked : IsRequest words request
  pub accepted : reads (Some files) request.source (Ok records)
  pub scheduled : schedules (Some files) request.schedule (Ok tt)
  pub joined : IsJoined records design
  pub wired : IsNetwork design network
  pub chains : (p : ℕ) → p < length network.points → HasChain (joints_of network) p
  pub room : (levels : List Level) (cells : CellsValue) → IsLevels network request.rounds levels → AreCells design (level_at levels (last_round request.rounds)) cells
      → (sites : List Place) × IsLegalised (segments_of design) cells sites

-- no count of faults rose
abbrev pub AreReadsCalm : FolderState → FolderState → Type 0
AreReadsCalm old new = Rose old.read_faults new.read_faults → ⊥

abbrev pub AreWritesCalm : FolderState → FolderState → Type 0
AreWritesCalm old new = Rose old.write_faults new.write_faults → ⊥

abbrev pub ArePutsCalm : SinkState → SinkState → Type 0
ArePutsCalm old new = Rose old.faults new.faults → ⊥

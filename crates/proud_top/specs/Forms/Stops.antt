-- Why a run stops before there is a placement: which stop the error of each layer is, and what the steps answer.
use Rattle.std.specs.Prelude.{◌≡◌, ◌⊎◌, ℕ, ◌<◌, List, [], length, slice_get, Option, Some, None, IfSome, Result, Ok, Err}
use Rattle.std.specs.List.{count_by}
use Rattle.book_outer.specs.Cause.{Rose}
use Rattle.book_outer.specs.State.{FolderState, SinkState}
use Rattle.book_design.specs.Records.{Records}
use Rattle.book_design.specs.Values.{NodeValue, DesignValue}
use Rattle.book_design.specs.Answers.{IsJoined}
use Rattle.book_files.specs.Entries.{NodeEntry}
use Rattle.book_design.specs.Points.{is_movable, node_value_at, IsNodeOf}
use Rattle.book_design.specs.declared.fault.JoinError.{JoinError}
use Rattle.book_design.specs.declared.fault.JoinError.TheVariants as join_error
use Rattle.net_model.specs.declared.fault.NetError.{NetError}
use Rattle.net_model.specs.declared.fault.NetError.TheVariants as net_error
use Rattle.net_model.specs.Network.{point_count}
use Rattle.pad_reach.specs.declared.search.ReachError.{ReachError}
use Rattle.pad_reach.specs.declared.search.ReachError.TheVariants as reach_error
use Rattle.row_legal.specs.declared.fault.LegalError.{LegalError}
use Rattle.row_legal.specs.declared.fault.LegalError.TheVariants as legal_error
use Rattle.book_files.specs.declared.records.FileKind.{FileKind}
use Rattle.book_files.specs.declared.records.FileKind.TheVariants.{Scl, Schedule}
use Rattle.level_run.specs.declared.rounds.Rounds.{Rounds}
use Rattle.proud_top.specs.Order.{rank}
use Rattle.proud_top.specs.declared.status.Refusal.{Refusal}
use Rattle.proud_top.specs.declared.status.Refusal.TheVariants.{Design, Net, Unanchored, NoRoom}
use Rattle.proud_top.specs.declared.status.Status.{Status}
use Rattle.proud_top.specs.declared.status.Status.TheVariants as status
use Rattle.proud_top.specs.declared.place.Placed.{Placed}
use Rattle.proud_top.specs.declared.stop.Stop.{Stop}
use Rattle.proud_top.specs.declared.stop.Stop.TheVariants.{ReadFault, Refused, Memory}
use Rattle.proud_top.specs.Lines.{node_subject, cannot_read_line, refusal_line}
use Rattle.proud_top.specs.Accepted.{IsFaultAt}
use Rattle.proud_top.specs.Placement.{IsLegalText}
use Rattle.proud_top.specs.Texts.{Texts, AreRecords}
use Rattle.proud_top.specs.Flow.{PlacedValue, reads_design, joins, last_kind}
use Rattle.proud_top.specs.Named.{node_of, cell_of, point_of, IsSubjectIn}
use Rattle.proud_top.specs.Statuses.{status_of, HasReadUpTo, IsUntouched}
use Rattle.proud_top.specs.Forms.Inputs.{HasTexts, places_texts}
use Rattle.proud_top.specs.Forms.Saying.{Puts}

abbrev pub stop_of_join : JoinError → Stop
stop_of_join (join_error.Fault fault) = Refused (Design fault)
stop_of_join join_error.Memory = Memory

abbrev pub stop_of_net : NetError → Stop
stop_of_net (net_error.Fault fault) = Refused (Net fault)
stop_of_net net_error.Memory = Memory

abbrev pub stop_of_reach : ReachError → Stop
stop_of_reach (reach_error.Unanchored point) = Refused (Unanchored point)
stop_of_reach reach_error.Memory = Memory

abbrev pub stop_of_legal : LegalError → Stop
stop_of_legal (legal_error.NoRoom cell sites largest) = Refused (NoRoom cell sites largest)
stop_of_legal legal_error.Memory = Memory

-- the refusal names nothing
pub record IsNameless (refusal : Refusal) : Type 0 where
  pub node : node_of refusal ≡ None
  pub cell : cell_of refusal ≡ None
  pub point : point_of refusal ≡ None

-- it stands at a file of a source, none of which is a schedule
abbrev pub IsOfSource : FileKind → Type 0
IsOfSource kind = rank kind < rank Schedule

-- What stopped the reading of the files, and what of the folder has changed. No read fault was counted but at a fault.
abbrev pub StopsReading : FolderState → FolderState → List ℕ → Stop → Type 0
StopsReading old new word (Refused refusal) = IsUntouched old new × reads_design old.files word (Err refusal) × HasReadUpTo (last_kind refusal) word old new × IsNameless refusal × IsOfSource (last_kind refusal)
StopsReading old new word (ReadFault kind) = IsUntouched old new × Rose old.read_faults new.read_faults × IfSome old.files (λ files. IsFaultAt files word kind old new) × IsOfSource kind
StopsReading old new word Memory = IsUntouched old new × (new.read_faults ≡ old.read_faults)

-- the texts of the design's files, or what stopped their reading
abbrev pub Gathers : FolderState → FolderState → List ℕ → Result Texts Stop → Type 0
Gathers old new word (Ok texts) = IsUntouched old new × IfSome old.files (λ files. HasTexts files word texts) × HasReadUpTo Scl word old new
Gathers old new word (Err stop) = StopsReading old new word stop

-- the design that the texts' records make, or their first fault
abbrev pub Designs : Texts → Result DesignValue Stop → Type 0
Designs texts (Ok design) = (records : Records) × AreRecords texts records × joins records (Ok design)
Designs texts (Err (Refused refusal)) = (records : Records) × AreRecords texts records × joins records (Err refusal)
Designs texts (Err (ReadFault kind)) = ⊥
Designs texts (Err Memory) = Unit {0}

abbrev pub placed_value : Placed → PlacedValue
placed_value placed = record { file = placed.file.items; report = placed.report.items }

-- the records as which the texts read, where there are any
abbrev pub AreRecordsOf : Option Texts → Records → Type 0
AreRecordsOf None records = ⊥
AreRecordsOf (Some texts) records = AreRecords texts records

-- among the records there is a node of the number
pub record HasNode (texts : Texts) (number : ℕ) : Type 0 where
  pub records : Records
  pub read : AreRecords texts records
  pub there : number < length records.nodes

-- in the design that the records make there is such a cell
pub record HasCell (texts : Texts) (cell : ℕ) : Type 0 where
  pub records : Records
  pub design : DesignValue
  pub read : AreRecords texts records
  pub joined : IsJoined records design
  pub there : cell < count_by is_movable design.nodes

-- in the design that the records make there is such a point
pub record HasPoint (texts : Texts) (point : ℕ) : Type 0 where
  pub records : Records
  pub design : DesignValue
  pub read : AreRecords texts records
  pub joined : IsJoined records design
  pub there : point < point_count design

-- the subject is the node of that number
abbrev pub IsSubjectAt : List NodeEntry → List ℕ → ℕ → Type 0
IsSubjectAt nodes subject number = (node : NodeEntry) × (slice_get nodes number ≡ Some node) × (subject ≡ node_subject node.name)

-- the subject is the cell of that number among the nodes
pub record IsCellNamed (nodes : List NodeValue) (subject : List ℕ) (cell : ℕ) : Type 0 where
  pub number : ℕ
  pub node : IsNodeOf nodes cell number
  pub named : subject ≡ node_subject (node_value_at nodes number).name

-- what the refusal names is one of the texts'
pub record HasNamed (texts : Texts) (refusal : Refusal) : Type 0 where
  pub node : IfSome (node_of refusal) (HasNode texts)
  pub cell : IfSome (cell_of refusal) (HasCell texts)
  pub point : IfSome (point_of refusal) (HasPoint texts)

abbrev pub Covers : Option Texts → Refusal → Type 0
Covers None refusal = IsNameless refusal
Covers (Some texts) refusal = HasNamed texts refusal

-- What the flow from the texts on ends with, in which the cells stand legally; or the refusal that stops it, which names what is the
-- texts'.
abbrev pub Places : Rounds → Texts → Result Placed Stop → Type 0
Places rounds texts (Ok placed) = places_texts rounds texts (Ok (placed_value placed)) × IsLegalText (AreRecords texts) placed.file.items
Places rounds texts (Err (Refused refusal)) = places_texts rounds texts (Err refusal) × HasNamed texts refusal
Places rounds texts (Err (ReadFault kind)) = ⊥
Places rounds texts (Err Memory) = Unit {0}

abbrev pub CoversStop : Option Texts → Stop → Type 0
CoversStop texts (Refused refusal) = Covers texts refusal
CoversStop texts (ReadFault kind) = Unit {0}
CoversStop texts Memory = Unit {0}

-- the line of the stop, with the subject that it names
abbrev pub IsLineOf : Option Texts → Stop → List ℕ → Type 0
IsLineOf texts (Refused refusal) line = (subject : List ℕ) × IsSubjectIn (AreRecordsOf texts) refusal subject × (line ≡ refusal_line refusal subject)
IsLineOf texts (ReadFault kind) line = line ≡ cannot_read_line kind
IsLineOf texts Memory line = line ≡ []

-- the line of the stop was put, or memory was wanting before that
abbrev pub Refuses : Option Texts → Stop → SinkState → SinkState → Status → Type 0
Refuses texts stop old new result = ((result ≡ status.Memory) × (new ≡ old))
    ⊎ ((line : List ℕ) × (stop ≡ Memory → ⊥) × IsLineOf texts stop line × Puts line (status_of stop) (status_of stop) old new result)

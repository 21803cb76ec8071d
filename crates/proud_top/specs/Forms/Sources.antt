-- The texts of a source: what stops their taking, and what the steps answer.
use Rattle.std.specs.Prelude.{◌≡◌, ◌⊎◌, ℕ, ◌<◌, ◌≤◌, List, length, Option, Some, IfSome, Result, Ok, Err}
use Rattle.book_outer.specs.Cause.{Rose}
use Rattle.book_outer.specs.Files.{FileEntry}
use Rattle.book_outer.specs.State.{FolderState}
use Rattle.book_files.specs.declared.records.FileKind.{FileKind}
use Rattle.book_files.specs.declared.records.FileKind.TheVariants.{Scl}
use Rattle.book_files.specs.declared.fault.TextFault.{TextFault}
use Rattle.book_files.specs.declared.loading.TheConstants.{MOST_BYTES}
use Rattle.grid_design.specs.declared.asked.Grid.{Grid}
use Rattle.grid_design.specs.declared.design.Texts.{Texts as Generated}
use Rattle.grid_design.specs.Asked.{IsSide}
use Rattle.proud_words.specs.Request.{SourceValue, of_design, of_grid}
use Rattle.proud_top.specs.declared.status.Refusal.{Refusal}
use Rattle.proud_top.specs.declared.status.Refusal.TheVariants.{TooLong, Text}
use Rattle.proud_top.specs.declared.stop.Stop.{Stop}
use Rattle.proud_top.specs.declared.stop.Stop.TheVariants.{ReadFault, Refused, Memory}
use Rattle.proud_top.specs.Accepted.{IsFaultOf}
use Rattle.proud_top.specs.Texts.{Texts, IsGoodText, AreShort, grid_texts}
use Rattle.book_design.specs.Records.{Records}
use Rattle.proud_top.specs.declared.source.Taken.{Taken}
use Rattle.proud_top.specs.Flow.{reads, reads_texts, schedules, last_kind}
use Rattle.proud_top.specs.Statuses.{HasRead, HasReadTo, HasReadAll, IsUnreadFile, IsUnreadAt, IsUntouched}
use Rattle.proud_top.specs.Forms.Inputs.{IsSoundText, AreSound, HasTexts}
use Rattle.proud_top.specs.Forms.Stops.{IsNameless, IsOfSource}

-- the sides of a grid are in their ranges
abbrev pub HasGoodSides : SourceValue → Type 0
HasGoodSides (of_design word) = Unit {0}
HasGoodSides (of_grid grid) = IsSide grid.rows × IsSide grid.columns

-- What stopped the taking of a source's texts, and what of the folder has changed. A read fault comes at a design's file alone.
abbrev pub StopsSource : FolderState → FolderState → SourceValue → Stop → Type 0
StopsSource old new source (Refused refusal) = IsUntouched old new × reads old.files source (Err refusal) × HasRead (last_kind refusal) source old new × IsNameless refusal × IsOfSource (last_kind refusal)
StopsSource old new source (ReadFault kind) = IsUntouched old new × Rose old.read_faults new.read_faults × IsUnreadFile kind source old new × IsOfSource kind
StopsSource old new source Memory = IsUntouched old new × (new.read_faults ≡ old.read_faults)

-- the texts are those of the source
abbrev pub AreTextsOf : Option (List FileEntry) → SourceValue → Texts → Type 0
AreTextsOf files (of_design word) texts = IfSome files (λ known. HasTexts known word texts)
AreTextsOf files (of_grid grid) texts = (texts ≡ grid_texts grid) × AreShort texts

-- the texts of the source, or what stopped their taking
abbrev pub TakesSource : FolderState → FolderState → SourceValue → Result Texts Stop → Type 0
TakesSource old new source (Ok texts) = IsUntouched old new × AreTextsOf old.files source texts × HasRead Scl source old new
TakesSource old new source (Err stop) = StopsSource old new source stop

-- the source or the schedule is refused by this
abbrev pub IsRefusedBy : Option (List FileEntry) → SourceValue → Option (List ℕ) → Refusal → Type 0
IsRefusedBy files source schedule refusal = reads files source (Err refusal) ⊎ ((records : Records) × reads files source (Ok records) × schedules files schedule (Err refusal))

-- what stopped the taking of a source's texts and of the schedule's events
abbrev pub StopsTaking : FolderState → FolderState → SourceValue → Option (List ℕ) → Stop → Type 0
StopsTaking old new source schedule (Refused refusal) = IsUntouched old new × IsRefusedBy old.files source schedule refusal × HasReadTo (last_kind refusal) source schedule old new × IsNameless refusal
StopsTaking old new source schedule (ReadFault kind) = IsUntouched old new × Rose old.read_faults new.read_faults × IsUnreadAt kind source schedule old new
StopsTaking old new source schedule Memory = IsUntouched old new × (new.read_faults ≡ old.read_faults)

-- the texts of the source and the events of the schedule, or what stopped their taking
abbrev pub Takes : FolderState → FolderState → SourceValue → Option (List ℕ) → Result Taken Stop → Type 0
Takes old new source schedule (Ok taken) = IsUntouched old new × AreTextsOf old.files source taken.inputs × schedules old.files schedule (Ok tt) × HasReadAll source schedule old new
Takes old new source schedule (Err stop) = StopsTaking old new source schedule stop

-- the text of the kind is too long, or has this first fault
abbrev pub IsWrong : FileKind → List ℕ → Refusal → Type 0
IsWrong kind text refusal = ((refusal ≡ TooLong kind) × (MOST_BYTES < length text))
    ⊎ ((length text ≤ MOST_BYTES) × ((fault : TextFault) × (refusal ≡ Text kind fault) × IsFaultOf kind text fault))

-- the text of the kind is accepted, or what is wrong with it
abbrev pub LooksAt : FileKind → List ℕ → Result (Unit {0}) Stop → Type 0
LooksAt kind text (Ok done) = IsGoodText kind text × IsSoundText kind text
LooksAt kind text (Err (Refused refusal)) = IsWrong kind text refusal
LooksAt kind text (Err (ReadFault other)) = ⊥
LooksAt kind text (Err Memory) = Unit {0}

-- what is first wrong with the texts, or want of memory
abbrev pub StopsLooking : Texts → Stop → Type 0
StopsLooking texts (Refused refusal) = reads_texts texts (Err refusal) × IsNameless refusal × IsOfSource (last_kind refusal)
StopsLooking texts (ReadFault kind) = ⊥
StopsLooking texts Memory = Unit {0}

-- all texts are accepted, or what is first wrong with them
abbrev pub LooksThrough : Texts → Result (Unit {0}) Stop → Type 0
LooksThrough texts (Ok done) = AreSound texts
LooksThrough texts (Err stop) = StopsLooking texts stop

-- the generator's texts
abbrev pub generated : Generated → Texts
generated texts = record { nodes = texts.nodes.items; nets = texts.nets.items; wts = Some texts.wts.items; pl = texts.pl.items; scl = texts.scl.items }

-- the texts of the grid, or what is wrong with them
abbrev pub Generates : Grid → Result Texts Stop → Type 0
Generates grid (Ok texts) = (texts ≡ grid_texts grid) × AreShort texts
Generates grid (Err stop) = StopsLooking (grid_texts grid) stop

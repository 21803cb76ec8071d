-- From what the source and the schedule answered to what the taking of both says.
use Rattle.std.proofs.Common.{◌≡◌, ◌⊎◌, ℕ, List, Option, Some, None, IfSome, Ok, Err, refl, sym, ◌∙◌, subst, inl, inr, arith}
use Rattle.book_outer.specs.Cause.{Rose}
use Rattle.book_outer.specs.Files.{FileEntry}
use Rattle.book_outer.specs.Folder.{missed_after}
use Rattle.book_outer.specs.State.{FolderState}
use Rattle.book_files.specs.declared.records.FileKind.{FileKind}
use Rattle.book_files.specs.declared.records.FileKind.TheVariants.{Aux, Nodes, Nets, Wts, Pl, Scl, Schedule}
use Rattle.book_files.specs.declared.fault.TextFault.{TextFault}
use Rattle.book_files.specs.declared.schedule.Event.{Event}
use Rattle.book_files.specs.Entries.{WeightEntry}
use Rattle.book_files.specs.Grammar.{Grammar, IsReading, IsFirstFault, HasOneAnswer}
use Rattle.book_files.specs.WeightRules.{weights_grammar}
use Rattle.book_design.specs.Records.{Records}
use Rattle.proud_words.specs.Request.{SourceValue, of_design, of_grid}
use Rattle.proud_top.specs.declared.status.Refusal.{Refusal}
use Rattle.proud_top.specs.declared.stop.Stop.{Stop}
use Rattle.proud_top.specs.declared.stop.Stop.TheVariants.{ReadFault, Refused, Memory}
use Rattle.proud_top.specs.Accepted.{IsAccepted}
use Rattle.proud_top.specs.Texts.{Texts, AreWeights, AreRecords}
use Rattle.proud_top.specs.Flow.{reads_events, schedules, last_kind}
use Rattle.proud_top.specs.Statuses.{HasRead, HasReadAll, HasReadTo, IsUnreadFile, IsUnreadAt, IsUntouched}
use Rattle.proud_top.specs.Forms.Inputs.{IsSoundText, AreSound}
use Rattle.proud_top.specs.Forms.Schedules.{StopsEvents, Names}
use Rattle.proud_top.specs.Forms.Sources.{AreTextsOf, StopsSource, TakesSource, StopsTaking}
use Rattle.proud_top.specs.Forms.Stops.{IsOfSource}
use Rattle.proud_top.proofs.Gathering.{untouched_more, known, found_missed}
use Rattle.proud_top.proofs.Once.{OneAnswer}
use Rattle.proud_top.proofs.Saying.{source_reads}

-- the files of a source come before that of a schedule
no_schedule : IsOfSource Schedule → ⊥
no_schedule less = omega arith

read_to : (kind : FileKind) (source : SourceValue) (schedule : Option (List ℕ)) (old new : FolderState) → IsOfSource kind → HasRead kind source old new → HasReadTo kind source schedule old new
read_to Aux source schedule old new of h = h
read_to Nodes source schedule old new of h = h
read_to Nets source schedule old new of h = h
read_to Wts source schedule old new of h = h
read_to Pl source schedule old new of h = h
read_to Scl source schedule old new of h = h
read_to Schedule source schedule old new of h = absurd (no_schedule of)

unread_to : (kind : FileKind) (source : SourceValue) (schedule : Option (List ℕ)) (old new : FolderState) → IsOfSource kind → IsUnreadFile kind source old new → IsUnreadAt kind source schedule old new
unread_to Aux source schedule old new of h = h
unread_to Nodes source schedule old new of h = h
unread_to Nets source schedule old new of h = h
unread_to Wts source schedule old new of h = h
unread_to Pl source schedule old new of h = h
unread_to Scl source schedule old new of h = h
unread_to Schedule source schedule old new of h = absurd (no_schedule of)

-- what stops the taking of the source stops that of both
pub source_stops : (old new : FolderState) (source : SourceValue) (schedule : Option (List ℕ)) (stop : Stop) → StopsSource old new source stop → StopsTaking old new source schedule stop
source_stops old new source schedule (Refused refusal) h = (h.0, inl h.1, read_to (last_kind refusal) source schedule old new h.4 h.2, h.3)
source_stops old new source schedule (ReadFault kind) h = (h.0, h.1, unread_to kind source schedule old new h.3 h.2)
source_stops old new source schedule Memory h = h

-- texts without a fault read as records
records_in : {I R : Type 0} (grammar : Grammar I R) (text : List ℕ) → HasOneAnswer grammar text → ((fault : TextFault) → IsFirstFault grammar text fault → ⊥) → (records : R) × IsReading grammar text records
records_in {R = R} grammar text one clean = by_answer one.some where
  by_answer : ((records : R) × IsReading grammar text records) ⊎ ((fault : TextFault) × IsFirstFault grammar text fault) → (records : R) × IsReading grammar text records
  by_answer (inl read) = read
  by_answer (inr bad) = absurd (clean bad.0 bad.1)

weights_in : OneAnswer → (wts : Option (List ℕ)) → IfSome wts (λ text. IsSoundText Wts text) → (weights : Option (List WeightEntry)) × AreWeights wts weights
weights_in one None sound = (None, tt)
weights_in one (Some text) sound = let read = records_in weights_grammar text (one.wts text) sound.clean in (Some read.0, read.1)

pub records_of : OneAnswer → (texts : Texts) → AreSound texts → (records : Records) × AreRecords texts records
records_of one texts sound =
    let nodes = records_in _ texts.nodes (one.nodes texts.nodes) sound.nodes.clean in
    let nets = records_in _ texts.nets (one.nets texts.nets) sound.nets.clean in
    let weights = weights_in one texts.wts sound.wts in
    let places = records_in _ texts.pl (one.pl texts.pl) sound.pl.clean in
    let rows = records_in _ texts.scl (one.scl texts.scl) sound.scl.clean in (
      record { nodes = nodes.0; nets = nets.0; weights = weights.0; places = places.0; rows = rows.0 },
      record { nodes = nodes.1; nets = nets.1; weights = weights.1; places = places.1; rows = rows.1 },
    )

-- behind the source no read fault was counted
calm_behind : (source : SourceValue) (old mid : FolderState) → HasRead Scl source old mid → mid.read_faults ≡ old.read_faults
calm_behind (of_design word) old mid h = h.reads
calm_behind (of_grid grid) old mid h = h.read_faults

refused_known : (o mid : Option (List FileEntry)) (name : List ℕ) (refusal : Refusal) → mid ≡ o → IfSome mid (λ files. reads_events files name (Err refusal)) → schedules o (Some name) (Err refusal)
refused_known o mid name refusal e h = by_files o (let P : Option (List FileEntry) → Type 0 = λ x. IfSome x (λ files. reads_events files name (Err refusal)) in subst P e h) where
  by_files : (x : Option (List FileEntry)) → IfSome x (λ files. reads_events files name (Err refusal)) → schedules x (Some name) (Err refusal)
  by_files None h = tt
  by_files (Some files) h = h

accepted_known : (o mid : Option (List FileEntry)) (name : List ℕ) → mid ≡ o → IfSome mid (λ files. IsAccepted files name Schedule) → schedules o (Some name) (Ok tt)
accepted_known o mid name e h = by_files o (let P : Option (List FileEntry) → Type 0 = λ x. IfSome x (λ files. IsAccepted files name Schedule) in subst P e h) where
  by_files : (x : Option (List FileEntry)) → IfSome x (λ files. IsAccepted files name Schedule) → schedules x (Some name) (Ok tt)
  by_files None h = tt
  by_files (Some files) h = h

-- what stops the reading of the schedule behind the source
pub events_stop : (old mid new : FolderState) (source : SourceValue) (name : List ℕ) (texts : Texts) (records : Records) (stop : Stop) → TakesSource old mid source (Ok texts) → AreRecords texts records
    → StopsEvents name mid new stop → StopsTaking old new source (Some name) stop
events_stop old mid new source name texts records (Refused refusal) g read h =
    let R : FileKind → Type 0 = λ kind. HasReadTo kind source (Some name) old new in (
      untouched_more old mid new g.0 h.0.untouched,
      inr (records, source_reads old.files source texts records g.1 read, refused_known old.files mid.files name refusal g.0.files h.2),
      subst R (sym h.4) (mid, g.2, record { begun = h.0.begun; missed = h.3; read_faults = h.1 }),
      h.5,
    )
events_stop old mid new source name texts records (ReadFault kind) g read h =
    let U : FileKind → Type 0 = λ k. IsUnreadAt k source (Some name) old new in
    let R : ℕ → Type 0 = λ before. Rose before new.read_faults in (
      untouched_more old mid new g.0 h.0.untouched,
      subst R (calm_behind source old mid g.2) h.2,
      subst U (sym h.1) (record {
        name = name;
        named = refl;
        before = mid;
        read = g.2;
        accepted = (records, source_reads old.files source texts records g.1 read);
        begun = h.0.begun;
        present = known old.files (λ files e there.
            let M : Option (List FileEntry) → Type 0 = λ o. new.missed ≡ missed_after o name mid.missed in
            subst M (g.0.files ∙ e) h.0.missed ∙ found_missed files name mid.missed there);
      }),
    )
events_stop old mid new source name texts records Memory g read h = (untouched_more old mid new g.0 h.0.untouched, h.1 ∙ calm_behind source old mid g.2)

names_stop : (old mid new : FolderState) (source : SourceValue) (schedule : Option (List ℕ)) (texts : Texts) (records : Records) (stop : Stop) → TakesSource old mid source (Ok texts) → AreRecords texts records
    → Names schedule mid new (Err stop) → StopsTaking old new source schedule stop
names_stop old mid new source None texts records stop g read h = absurd h
names_stop old mid new source (Some name) texts records stop g read h = events_stop old mid new source name texts records stop g read h

-- the taking of both, where the schedule stopped it
pub schedule_stops : OneAnswer → (old mid new : FolderState) (source : SourceValue) (schedule : Option (List ℕ)) (texts : Texts) (stop : Stop) → TakesSource old mid source (Ok texts) → AreSound texts
    → Names schedule mid new (Err stop) → StopsTaking old new source schedule stop
schedule_stops one old mid new source schedule texts stop g sound h =
    let read = records_of one texts sound in
    names_stop old mid new source schedule texts read.0 stop g read.1 h

-- and where nothing did
abbrev IsTaken : FolderState → FolderState → SourceValue → Option (List ℕ) → Texts → Type 0
IsTaken old new source schedule texts = IsUntouched old new × AreTextsOf old.files source texts × schedules old.files schedule (Ok tt) × HasReadAll source schedule old new

pub both_taken : (old mid new : FolderState) (source : SourceValue) (schedule : Option (List ℕ)) (texts : Texts) (events : Option (List Event)) → TakesSource old mid source (Ok texts) → Names schedule mid new (Ok events)
    → IsTaken old new source schedule texts
both_taken old mid new source None texts None g h =
    let P : FolderState → Type 0 = λ f. IsTaken old f source None texts in
    subst P (sym h) (g.0, g.1, tt, g.2)
both_taken old mid new source None texts (Some events) g h = absurd h
both_taken old mid new source (Some name) texts None g h = absurd h
both_taken old mid new source (Some name) texts (Some events) g h = (
  untouched_more old mid new g.0 h.0.untouched,
  g.1,
  accepted_known old.files mid.files name g.0.files h.2,
  (mid, g.2, record { begun = h.0.begun; missed = h.3; read_faults = h.1 }),
)

-- From what is due, and what the put of it answered, to what the status says; and what that leaves possible.
use Rattle.std.proofs.Common.{◌≡◌, ◌⊎◌, ℕ, List, refl, sym, ◌∙◌, ap, subst, inl, inr}
use Rattle.std.specs.Prelude.{Option, Some, None, IfSome, Result, Ok, Err, take, option_map}
use Rattle.std.specs.Io.KnownBytes.{Appends}
use Rattle.book_outer.specs.Cause.{Rose}
use Rattle.book_outer.specs.Files.{FileEntry, with_content}
use Rattle.book_outer.specs.State.{FolderState, SinkState}
use Rattle.book_files.specs.declared.records.FileKind.{FileKind}
use Rattle.book_files.specs.declared.records.FileKind.TheVariants.{Scl, Schedule}
use Rattle.book_files.specs.Entries.{WeightEntry}
use Rattle.book_design.specs.Records.{Records}
use Rattle.book_design.specs.Values.{DesignValue}
use Rattle.proud_top.specs.declared.status.Refusal.{Refusal}
use Rattle.proud_top.specs.declared.status.Status.{Status}
use Rattle.proud_top.specs.declared.status.Status.TheVariants.{Done, Usage, Refused, ReadFault, WriteFault, Memory}
use Rattle.proud_top.specs.declared.stop.Stop.{Stop}
use Rattle.proud_top.specs.declared.stop.Stop.TheVariants as stop
use Rattle.level_run.specs.declared.rounds.Rounds.{Rounds}
use Rattle.level_run.specs.declared.level.Level.{Level}
use Rattle.row_space.specs.Values.{SegmentsValue}
use Rattle.row_legal.specs.Cells.{CellsValue}
use Rattle.proud_top.specs.declared.place.Placed.{Placed}
use Rattle.proud_words.specs.Request.{RequestValue, SourceValue, of_design, of_grid, IsRequest}
use Rattle.proud_top.specs.Texts.{Texts, AreWeights, AreRecords, AreShort}
use Rattle.proud_top.specs.Accepted.{ReadsWeights, Accepts, IsLast}
use Rattle.proud_top.specs.Placement.{IsLegalText}
use Rattle.proud_top.specs.Flow.{PlacedValue, ◌then◌, places, reads_design, reads, schedules, legalises, places_corners, places_levels, last_kind}
use Rattle.proud_top.specs.Statuses.{status_of, Says, HasFile, HasFront, GotFront, HasReadUpTo, ReadsNothing, HasRead, HasReadAll, HasReadTo, IsCause, IsDue, IsDone, IsUsage, IsRefused, IsReadFault, IsWriteFault, IsUnwritten, not_made, not_put, not_reported, IsPutUpTo, none_put, file_put, report_put, cut_before, cut_in_line, cut_in_placement, IsMemory, IsPlaceable, AreReadsCalm, AreWritesCalm, ArePutsCalm, IsUntouched}
use Rattle.proud_top.specs.Forms.Saying.{Puts, Delivers}
use Rattle.proud_top.specs.Forms.Inputs.{HoldsWeights, HasTexts, places_texts}
use Rattle.proud_top.specs.declared.source.Taken.{Taken}
use Rattle.proud_top.specs.Forms.Sources.{IsRefusedBy, StopsTaking, AreTextsOf, Takes}
use Rattle.proud_top.specs.Forms.Stops.{placed_value, Places, CoversStop, IsLineOf, Refuses}
use Rattle.proud_top.proofs.Once.{OneAnswer}
use Rattle.proud_top.proofs.OneEnd.{one_end, never_refused, never_behind}
use Rattle.proud_top.proofs.Same.{OneRequest, same_flow}
use Rattle.proud_top.proofs.Output.{nothing_read}
use Rattle.proud_top.proofs.Naming.{named_among}

whole : (words : List (List ℕ)) (f f' : FolderState) (s s' : SinkState) (status : Status) (line : List ℕ) → IsDue status words f f' line → IsUntouched f f'
    → Appends s.written s'.written line → s'.faults ≡ s.faults → Says status words f f' s s'
whole words f f' s s' Usage line due kept got calm = record { line = line; due = due; untouched = kept; got = inl (got, calm) }
whole words f f' s s' (Refused refusal) line due kept got calm = record { line = line; due = due; untouched = kept; got = inl (got, calm) }
whole words f f' s s' (ReadFault kind) line due kept got calm = record { line = line; due = due; untouched = kept; got = inl (got, calm) }
whole words f f' s s' Done line due kept got calm = absurd due
whole words f f' s s' WriteFault line due kept got calm = absurd due
whole words f f' s s' Memory line due kept got calm = absurd due

part : (words : List (List ℕ)) (f f' : FolderState) (s s' : SinkState) (status : Status) (line : List ℕ) → IsDue status words f f' line → IsUntouched f f'
    → Rose s.faults s'.faults → GotFront s s' line → Says status words f f' s s'
part words f f' s s' Usage line due kept rose got = record { line = line; due = due; untouched = kept; got = inr (rose, got) }
part words f f' s s' (Refused refusal) line due kept rose got = record { line = line; due = due; untouched = kept; got = inr (rose, got) }
part words f f' s s' (ReadFault kind) line due kept rose got = record { line = line; due = due; untouched = kept; got = inr (rose, got) }
part words f f' s s' Done line due kept rose got = absurd due
part words f f' s s' WriteFault line due kept rose got = absurd due
part words f f' s s' Memory line due kept rose got = absurd due

-- A line that is due, once put, says what its status says.
pub says : (words : List (List ℕ)) (f f' : FolderState) (s s' : SinkState) (status result : Status) (line : List ℕ) → IsDue status words f f' line → IsUntouched f f'
    → Puts line status status s s' result → Says result words f f' s s'
says words f f' s s' status result line due kept (inl put) =
    let P : Status → Type 0 = λ x. Says x words f f' s s' in
    subst P (sym put.0) (whole words f f' s s' status line due kept put.1 put.2)
says words f f' s s' status result line due kept (inr (inl put)) =
    let P : Status → Type 0 = λ x. Says x words f f' s s' in
    subst P (sym put.0) (part words f f' s s' status line due kept put.1 put.2)
says words f f' s s' status result line due kept (inr (inr put)) =
    let P : Status → Type 0 = λ x. Says x words f f' s s' in
    subst P (sym put.0) (record { cut_off = cut_in_line status line due kept.files put.1; writes = kept.write_faults; puts = put.2 })

-- what was reached, where nothing more is read
read_on : (o : Option (List FileEntry)) (kind : FileKind) (word : List ℕ) (f g f' : FolderState) → IfSome o (λ files. IsLast files word kind f g) → ReadsNothing g f' → IfSome o (λ files. IsLast files word kind f f')
read_on None kind word f g f' h k = tt
read_on (Some files) kind word f g f' h k = record { name = h.name; nth = h.nth; next = h.next; begun = k.begun ∙ h.begun; present = k.missed ∙ h.present }

read_kept : (kind : FileKind) (word : List ℕ) (f g f' : FolderState) → HasReadUpTo kind word f g → ReadsNothing g f' → HasReadUpTo kind word f f'
read_kept kind word f g f' h k = record { begun = read_on f.files kind word f g f' h.begun k; reads = k.read_faults ∙ h.reads }

has_read_kept : (kind : FileKind) (source : SourceValue) (f g f' : FolderState) → HasRead kind source f g → ReadsNothing g f' → HasRead kind source f f'
has_read_kept kind (of_design word) f g f' h k = read_kept kind word f g f' h k
has_read_kept kind (of_grid grid) f g f' h k = nothing_read f g f' h k

all_read_kept : (source : SourceValue) (schedule : Option (List ℕ)) (f g f' : FolderState) → HasReadAll source schedule f g → ReadsNothing g f' → HasReadAll source schedule f f'
all_read_kept source None f g f' h k = has_read_kept Scl source f g f' h k
all_read_kept source (Some name) f g f' (mid, h, more) k = (mid, h, record { begun = k.begun ∙ more.begun; missed = k.missed ∙ more.missed; read_faults = k.read_faults ∙ more.read_faults })

-- what holds of the files since the texts were taken holds since the start
file_since : (name text : List ℕ) (f g f' : FolderState) → IsUntouched f g → HasFile name text g f' → HasFile name text f f'
file_since name text f g f' kept h = h ∙ ap (λ (o : Option (List FileEntry)). option_map (λ files. with_content files name text) o) kept.files

front_since : (name text : List ℕ) (f g f' : FolderState) → IsUntouched f g → HasFront name text g f' → HasFront name text f f'
front_since name text f g f' kept (n, h) = (n, file_since name (take n text) f g f' kept h)

rose_since : (a b c : ℕ) → b ≡ a → Rose b c → Rose a c
rose_since a b c same rose =
    let P : ℕ → Type 0 = λ n. Rose n c in
    subst P same rose

unwritten_since : (name : List ℕ) (placed : PlacedValue) (f g f' : FolderState) (s s' : SinkState) → IsUntouched f g → IsUnwritten name placed g f' s s' → IsUnwritten name placed f f' s s'
unwritten_since name placed f g f' s s' kept (not_made rose same none) = not_made (rose_since f.write_faults g.write_faults f'.write_faults kept.write_faults rose) (same ∙ kept.files) none
unwritten_since name placed f g f' s s' kept (not_put rose front none) = not_put (rose_since f.write_faults g.write_faults f'.write_faults kept.write_faults rose) (front_since name placed.file f g f' kept front) none
unwritten_since name placed f g f' s s' kept (not_reported rose file calm got) = not_reported rose (file_since name placed.file f g f' kept file) (calm ∙ kept.write_faults) got

up_to_since : (name : List ℕ) (placed : PlacedValue) (f g f' : FolderState) (s s' : SinkState) → IsUntouched f g → IsPutUpTo name placed g f' s s' → IsPutUpTo name placed f f' s s'
up_to_since name placed f g f' s s' kept (none_put same none) = none_put (same ∙ kept.files) none
up_to_since name placed f g f' s s' kept (file_put front none) = file_put (front_since name placed.file f g f' kept front) none
up_to_since name placed f g f' s s' kept (report_put file got) = report_put (file_since name placed.file f g f' kept file) got

-- as what the request is placed, before it is delivered
pub record IsPlacedAt (words : List (List ℕ)) (request : RequestValue) (old new : FolderState) (placed : PlacedValue) : Type 0 where
  pub asked : IsRequest words request
  pub flow : places old.files request.source request.schedule request.rounds (Ok placed)
  pub read : HasReadAll request.source request.schedule old new
  pub legal : IsLegalText (λ records. reads old.files request.source (Ok records)) placed.file

-- What was placed, once delivered, says what the status says.
pub says_delivered : (words : List (List ℕ)) (request : RequestValue) (f g f' : FolderState) (s s' : SinkState) (placed : PlacedValue) (result : Status) → IsPlacedAt words request f g placed → IsUntouched f g → ReadsNothing g f'
    → Delivers request.out placed g f' s s' result → Says result words f f' s s'
says_delivered words request f g f' s s' placed result h kept none delivered = by_status result delivered where
  by_status : (x : Status) → Delivers request.out placed g f' s s' x → Says x words f f' s s'
  by_status Done d = record {
    placed = placed;
    due = record { request = request; asked = h.asked; flow = h.flow; read = all_read_kept request.source request.schedule f g f' h.read none; legal = h.legal };
    file = file_since request.out placed.file f g f' kept d.0;
    got = d.2;
    writes = d.1 ∙ kept.write_faults;
    puts = d.3;
  }
  by_status WriteFault d = record {
    placed = placed;
    due = record { request = request; asked = h.asked; flow = h.flow; read = all_read_kept request.source request.schedule f g f' h.read none; legal = h.legal };
    unwritten = unwritten_since request.out placed f g f' s s' kept d;
  }
  by_status Memory d = record {
    cut_off = cut_in_placement placed
        (record { request = request; asked = h.asked; flow = h.flow; read = all_read_kept request.source request.schedule f g f' h.read none; legal = h.legal })
        (up_to_since request.out placed f g f' s s' kept d.0);
    writes = d.1 ∙ kept.write_faults;
    puts = d.2;
  }
  by_status Usage d = absurd d
  by_status (Refused refusal) d = absurd d
  by_status (ReadFault kind) d = absurd d

-- the texts of the files, read as records, are accepted files
weights_read : (files : List FileEntry) (word : List ℕ) (wts text : Option (List ℕ)) (weights : Option (List WeightEntry)) → HoldsWeights files word wts text → AreWeights text weights → ReadsWeights files word wts weights
weights_read files word None None None h k = tt
weights_read files word None None (Some weights) h k = absurd k
weights_read files word None (Some text) weights h k = absurd h
weights_read files word (Some name) None weights h k = absurd h
weights_read files word (Some name) (Some text) None h k = absurd k
weights_read files word (Some name) (Some text) (Some weights) h k = record { text = text; there = h.there; short = h.short; reading = k }

accepts_texts : (files : List FileEntry) (word : List ℕ) (texts : Texts) (records : Records) (h : HasTexts files word texts) → AreRecords texts records → Accepts files word h.names records
accepts_texts files word texts records h k = record {
  aux = h.aux;
  nodes = record { text = texts.nodes; there = h.nodes.there; short = h.nodes.short; reading = k.nodes };
  nets = record { text = texts.nets; there = h.nets.there; short = h.nets.short; reading = k.nets };
  weights = weights_read files word h.names.wts texts.wts records.weights h.wts k.weights;
  pl = record { text = texts.pl; there = h.pl.there; short = h.pl.short; reading = k.places };
  scl = record { text = texts.scl; there = h.scl.there; short = h.scl.short; reading = k.rows };
}

design_reads : (o : Option (List FileEntry)) (word : List ℕ) (texts : Texts) (records : Records) → IfSome o (λ files. HasTexts files word texts) → AreRecords texts records → reads_design o word (Ok records)
design_reads None word texts records h k = tt
design_reads (Some files) word texts records h k = (h.names, accepts_texts files word texts records h k)

pub source_reads : (o : Option (List FileEntry)) (source : SourceValue) (texts : Texts) (records : Records) → AreTextsOf o source texts → AreRecords texts records → reads o source (Ok records)
source_reads o (of_design word) texts records h k = design_reads o word texts records h k
source_reads o (of_grid grid) texts records h k =
    let P : Texts → Type 0 = λ t. AreShort t × AreRecords t records in
    subst P h.0 (h.1, k)

-- the flow from the texts on is that from the source on
flow_texts : (o : Option (List FileEntry)) (source : SourceValue) (schedule : Option (List ℕ)) (rounds : Rounds) (texts : Texts) (end : Result PlacedValue Refusal) → AreTextsOf o source texts → schedules o schedule (Ok tt)
    → places_texts rounds texts end → places o source schedule rounds end
flow_texts o source schedule rounds texts (Ok placed) h s flow = (flow.0, source_reads o source texts flow.0 h flow.1, (tt, s, flow.2))
flow_texts o source schedule rounds texts (Err refusal) h s (inl none) = absurd none
flow_texts o source schedule rounds texts (Err refusal) h s (inr (records, read, rest)) = inr (records, source_reads o source texts records h read, inr (tt, s, rest))

-- and where the source or the schedule is refused, so is the flow
flow_refused : (o : Option (List FileEntry)) (source : SourceValue) (schedule : Option (List ℕ)) (rounds : Rounds) (refusal : Refusal) → IsRefusedBy o source schedule refusal → places o source schedule rounds (Err refusal)
flow_refused o source schedule rounds refusal (inl read) = inl read
flow_refused o source schedule rounds refusal (inr (records, read, scheduled)) = inr (records, read, inl scheduled)

-- a refusal behind the texts comes when all files were begun: behind the levels there may be no room
last_cells : (rounds : Rounds) (refusal : Refusal) (design : DesignValue) (levels : List Level) (rows : SegmentsValue) (cells : CellsValue)
    → (legalises rows cells then λ places. places_corners rounds design levels rows places) (Err refusal) → last_kind refusal ≡ Schedule
last_cells rounds refusal design levels rows cells (inl (cell, sites, largest, e, stuck)) = ap last_kind e
last_cells rounds refusal design levels rows cells (inr (places, is, rest)) = absurd (never_behind rounds design levels rows places refusal rest)

last_levels : (rounds : Rounds) (refusal : Refusal) (design : DesignValue) (levels : List Level) → places_levels rounds design levels (Err refusal) → last_kind refusal ≡ Schedule
last_levels rounds refusal design levels (inl none) = absurd none
last_levels rounds refusal design levels (inr (rows, same, inl none)) = absurd none
last_levels rounds refusal design levels (inr (rows, same, inr (cells, are, rest))) = last_cells rounds refusal design levels rows cells rest

last_behind : (rounds : Rounds) (texts : Texts) (refusal : Refusal) → places_texts rounds texts (Err refusal) → last_kind refusal ≡ Schedule
last_behind rounds texts refusal (inl none) = absurd none
last_behind rounds texts refusal (inr (records, read, inl (fault, e, first))) = ap last_kind e
last_behind rounds texts refusal (inr (records, read, inr (design, joined, inl (fault, e, first)))) = ap last_kind e
last_behind rounds texts refusal (inr (records, read, inr (design, joined, inr (network, made, inl (point, e, first))))) = ap last_kind e
last_behind rounds texts refusal (inr (records, read, inr (design, joined, inr (network, made, inr (done, chains, inl none))))) = absurd none
last_behind rounds texts refusal (inr (records, read, inr (design, joined, inr (network, made, inr (done, chains, inr (levels, is, rest)))))) = last_levels rounds refusal design levels rest

pub covered_take : (f f' : FolderState) (source : SourceValue) (schedule : Option (List ℕ)) (s : Stop) → StopsTaking f f' source schedule s → CoversStop None s
covered_take f f' source schedule (stop.Refused refusal) h = h.3
covered_take f f' source schedule (stop.ReadFault kind) h = tt
covered_take f f' source schedule stop.Memory h = tt

pub covered_place : (rounds : Rounds) (texts : Texts) (s : Stop) → Places rounds texts (Err s) → CoversStop (Some texts) s
covered_place rounds texts (stop.Refused refusal) h = h.1
covered_place rounds texts (stop.ReadFault kind) h = tt
covered_place rounds texts stop.Memory h = tt

-- what is due where the taking of the texts stopped
pub due_take : (words : List (List ℕ)) (request : RequestValue) (f f' : FolderState) → IsRequest words request → (s : Stop) → StopsTaking f f' request.source request.schedule s
    → (line : List ℕ) → IsLineOf None s line → (s ≡ stop.Memory → ⊥) → IsDue (status_of s) words f f' line
due_take words request f f' asked (stop.Refused refusal) h line is other = record {
  cause = record { request = request; asked = asked; flow = flow_refused f.files request.source request.schedule request.rounds refusal h.1 };
  read = h.2;
  subject = is.0;
  named = named_among refusal is.0 (λ records none. absurd none) is.1;
  line = is.2;
}
due_take words request f f' asked (stop.ReadFault kind) h line is other = record { request = request; asked = asked; rose = h.1; at = h.2; line = is }
due_take words request f f' asked stop.Memory h line is other = absurd (other refl)

-- and where what the texts make is refused
pub due_place : (words : List (List ℕ)) (request : RequestValue) (f f' : FolderState) (taken : Taken) → IsRequest words request → Takes f f' request.source request.schedule (Ok taken) → (s : Stop) → Places request.rounds taken.inputs (Err s)
    → (line : List ℕ) → IsLineOf (Some taken.inputs) s line → (s ≡ stop.Memory → ⊥) → IsDue (status_of s) words f f' line
due_place words request f f' taken asked g (stop.Refused refusal) h line is other =
    let R : FileKind → Type 0 = λ kind. HasReadTo kind request.source request.schedule f f' in
    record {
      cause = record { request = request; asked = asked; flow = flow_texts f.files request.source request.schedule request.rounds taken.inputs (Err refusal) g.1 g.2 h.0 };
      read = subst R (sym (last_behind request.rounds taken.inputs refusal h.0)) g.3;
      subject = is.0;
      named = named_among refusal is.0 (λ records read. source_reads f.files request.source taken.inputs records g.1 read) is.1;
      line = is.2;
    }
due_place words request f f' taken asked g (stop.ReadFault kind) h line is other = absurd h
due_place words request f f' taken asked g stop.Memory h line is other = absurd (other refl)

pub placed_at : (words : List (List ℕ)) (request : RequestValue) (f f' : FolderState) (taken : Taken) (placed : Placed) → IsRequest words request → Takes f f' request.source request.schedule (Ok taken) → Places request.rounds taken.inputs (Ok placed)
    → IsPlacedAt words request f f' (placed_value placed)
placed_at words request f f' taken placed asked g h = record {
  asked = asked;
  flow = flow_texts f.files request.source request.schedule request.rounds taken.inputs (Ok (placed_value placed)) g.1 g.2 h.0;
  read = g.3;
  legal = record {
    records = h.1.records;
    design = h.1.design;
    spots = h.1.spots;
    read = source_reads f.files request.source taken.inputs h.1.records g.1 h.1.read;
    joined = h.1.joined;
    legal = h.1.legal;
    is_text = h.1.is_text;
  };
}

-- a folder is as it was where the taking of the texts stopped
pub untouched_at : (f f' : FolderState) (source : SourceValue) (schedule : Option (List ℕ)) (s : Stop) → StopsTaking f f' source schedule s → IsUntouched f f'
untouched_at f f' source schedule (stop.Refused refusal) h = h.0
untouched_at f f' source schedule (stop.ReadFault kind) h = h.0
untouched_at f f' source schedule stop.Memory h = h.0

-- what a stop says, once its line was put
pub says_stop : (words : List (List ℕ)) (f f' : FolderState) (s s' : SinkState) (texts : Option Texts) (x : Stop) (result : Status) → IsUntouched f f'
    → ((line : List ℕ) → IsLineOf texts x line → (x ≡ stop.Memory → ⊥) → IsDue (status_of x) words f f' line) → Refuses texts x s s' result → Says result words f f' s s'
says_stop words f f' s s' texts x result kept due (inl (e, same)) =
    let P : Status → Type 0 = λ y. Says y words f f' s s' in
    subst P (sym e) (record { cut_off = cut_before kept.files same; writes = kept.write_faults; puts = ap (λ (y : SinkState). y.faults) same })
says_stop words f f' s s' texts x result kept due (inr (line, other, is, put)) =
    says words f f' s s' (status_of x) result line (due line is other) kept put

abbrev refused_end : Refusal → Result PlacedValue Refusal
refused_end refusal = Err refusal

-- a run without a read fault is refused where the flow is
pub only_refused : OneAnswer → OneRequest → (files : List FileEntry) (words : List (List ℕ)) (f f' : FolderState) (s s' : SinkState) (refusal : Refusal) (status : Status)
    → f.files ≡ Some files → IsCause words (Some files) refusal → AreReadsCalm f f' → Says status words f f' s s' → (status ≡ Refused refusal) ⊎ (status ≡ Memory)
only_refused one ask files words f f' s s' refusal status is cause calm said = by_status status said where
  ended : (request : RequestValue) (end : Result PlacedValue Refusal) → IsRequest words request → places f.files request.source request.schedule request.rounds end → end ≡ Err refusal
  ended request end asked flow =
      let P : Option (List FileEntry) → Type 0 = λ o. places o request.source request.schedule request.rounds end in
      one_end one files request.source request.schedule request.rounds end (Err refusal) (subst P is flow) (same_flow ask words (Some files) cause.request request (Err refusal) cause.asked asked cause.flow)

  no_text : (placed : PlacedValue) → Ok placed ≡ Err refusal → ⊥
  no_text placed e = cc

  same : (other : Refusal) → refused_end other ≡ refused_end refusal → Refused other ≡ Refused refusal
  same other e = cc

  by_status : (x : Status) → Says x words f f' s s' → (x ≡ Refused refusal) ⊎ (x ≡ Memory)
  by_status Done h = absurd (no_text h.placed (ended h.due.request (Ok h.placed) h.due.asked h.due.flow))
  by_status WriteFault h = absurd (no_text h.placed (ended h.due.request (Ok h.placed) h.due.asked h.due.flow))
  by_status Usage h = absurd (h.due.none cause.request cause.asked)
  by_status (Refused other) h = inl (same other (ended h.due.cause.request (Err other) h.due.cause.asked h.due.cause.flow))
  by_status (ReadFault kind) h = absurd (calm h.due.rose)
  by_status Memory h = inr refl

-- a run without a fault is done where the design is accepted
pub complete : OneAnswer → OneRequest → (files : List FileEntry) (words : List (List ℕ)) (f f' : FolderState) (s s' : SinkState) (status : Status)
    → f.files ≡ Some files → IsPlaceable words files → AreReadsCalm f f' → AreWritesCalm f f' → ArePutsCalm s s' → Says status words f f' s s' → (status ≡ Done) ⊎ (status ≡ Memory)
complete one ask files words f f' s s' status is given calm still quiet said = by_status status said where
  no_refusal : (refusal : Refusal) (request : RequestValue) → IsRequest words request → places f.files request.source request.schedule request.rounds (Err refusal) → ⊥
  no_refusal refusal request asked flow =
      let P : Option (List FileEntry) → Type 0 = λ o. places o request.source request.schedule request.rounds (Err refusal) in
      never_refused one files given.request.source given.request.schedule given.request.rounds given.records given.design given.network refusal given.accepted given.scheduled given.joined given.wired given.chains given.room
      (same_flow ask words (Some files) request given.request (Err refusal) asked given.asked (subst P is flow))

  unwritten : {name : List ℕ} {placed : PlacedValue} → IsUnwritten name placed f f' s s' → ⊥
  unwritten (not_made rose same none) = still rose
  unwritten (not_put rose front none) = still rose
  unwritten (not_reported rose file kept got) = quiet rose

  by_status : (x : Status) → Says x words f f' s s' → (x ≡ Done) ⊎ (x ≡ Memory)
  by_status Done h = inl refl
  by_status WriteFault h = absurd (unwritten h.unwritten)
  by_status Usage h = absurd (h.due.none given.request given.asked)
  by_status (Refused refusal) h = absurd (no_refusal refusal h.due.cause.request h.due.cause.asked h.due.cause.flow)
  by_status (ReadFault kind) h = absurd (calm h.due.rose)
  by_status Memory h = inr refl

-- what a status says, of what is known under each
pub said_of : (words : List (List ℕ)) (f f' : FolderState) (s s' : SinkState) (status : Status)
    → (status ≡ Done → IsDone words f f' s s') → (status ≡ Usage → IsUsage words f f' s s')
    → ((refusal : Refusal) → status ≡ Refused refusal → IsRefused words refusal f f' s s')
    → ((kind : FileKind) → status ≡ ReadFault kind → IsReadFault words kind f f' s s')
    → (status ≡ WriteFault → IsWriteFault words f f' s s') → (status ≡ Memory → IsMemory words f f' s s')
    → Says status words f f' s s'
said_of words f f' s s' Done done usage refused unread unwritten memory = done refl
said_of words f f' s s' Usage done usage refused unread unwritten memory = usage refl
said_of words f f' s s' (Refused refusal) done usage refused unread unwritten memory = refused refusal refl
said_of words f f' s s' (ReadFault kind) done usage refused unread unwritten memory = unread kind refl
said_of words f f' s s' WriteFault done usage refused unread unwritten memory = unwritten refl
said_of words f f' s s' Memory done usage refused unread unwritten memory = memory refl

-- Words ask for one request, so that two runs that ask for the same leave the same.
use Rattle.std.proofs.Common.{◌≡◌, ℕ, List, refl, sym, ◌∙◌, ap, subst}
use Rattle.std.specs.Prelude.{Option, Some, None, Result, Ok, option_map}
use Rattle.std.specs.Io.KnownBytes.{Appends}
use Rattle.book_outer.specs.Files.{FileEntry, with_content}
use Rattle.book_outer.specs.State.{FolderState, SinkState}
use Rattle.proud_words.specs.Request.{RequestValue, SourceValue, IsRequest}
use Rattle.level_run.specs.declared.rounds.Rounds.{Rounds}
use Rattle.proud_top.specs.declared.status.Refusal.{Refusal}
use Rattle.proud_top.specs.Flow.{PlacedValue, places}
use Rattle.proud_top.specs.Statuses.{IsDone}
use Rattle.proud_top.specs.Alike.{AskForTheSame, AreAlike}
use Rattle.proud_top.proofs.Once.{OneAnswer}
use Rattle.proud_top.proofs.OneEnd.{one_end}

-- what the law of the words says
abbrev pub OneRequest : Type 0
OneRequest = (words : List (List ℕ)) (a b : RequestValue) → IsRequest words a → IsRequest words b → a ≡ b

-- the flow of the one request that the words make
pub same_flow : OneRequest → (words : List (List ℕ)) (files : Option (List FileEntry)) (a b : RequestValue) (end : Result PlacedValue Refusal) → IsRequest words a → IsRequest words b
    → places files a.source a.schedule a.rounds end → places files b.source b.schedule b.rounds end
same_flow ask words files a b end ea eb h =
    let P : RequestValue → Type 0 = λ request. places files request.source request.schedule request.rounds end in
    subst P (ask words a b ea eb) h

abbrev done : PlacedValue → Result PlacedValue Refusal
done placed = Ok placed

placed_once : (a b : PlacedValue) → done a ≡ done b → a ≡ b
placed_once a b e = cc

-- a schedule makes no difference to what is placed
unscheduled : (files : Option (List FileEntry)) (request : RequestValue) (placed : PlacedValue) → places files request.source request.schedule request.rounds (Ok placed)
    → places files request.source None request.rounds (Ok placed)
unscheduled files request placed h = (h.0, h.1, (tt, tt, h.2.2))

-- the flow of a run that is done, from the files and for the request that are known, without its schedule
flow_as : (files : List FileEntry) (own : Option (List FileEntry)) (request asked : RequestValue) (source : SourceValue) (rounds : Rounds) (placed : PlacedValue) → own ≡ Some files → request ≡ asked
    → asked.source ≡ source → asked.rounds ≡ rounds → places own request.source request.schedule request.rounds (Ok placed) → places (Some files) source None rounds (Ok placed)
flow_as files own request asked source rounds placed known same from deep h =
    let F : Option (List FileEntry) → Type 0 = λ o. places o request.source None request.rounds (Ok placed) in
    let R : RequestValue → Type 0 = λ r. places (Some files) r.source None r.rounds (Ok placed) in
    let S : SourceValue → Type 0 = λ s. places (Some files) s None asked.rounds (Ok placed) in
    let L : Rounds → Type 0 = λ n. places (Some files) source None n (Ok placed) in
    subst L deep (subst S from (subst R same (subst F known (unscheduled own request placed h))))

abbrev with_file : Option (List FileEntry) → List ℕ → List ℕ → Option (List FileEntry)
with_file files name text = option_map (λ known. with_content known name text) files

same_files : (a b : Option (List FileEntry)) (name name' text text' : List ℕ) → a ≡ b → name ≡ name' → text ≡ text' → with_file a name text ≡ with_file b name' text'
same_files a b name name' text text' e f g =
    ap (λ (o : Option (List FileEntry)). with_file o name text) e ∙ ap (λ (n : List ℕ). with_file b n text) f ∙ ap (λ (t : List ℕ). with_file b name' t) g

pub same_placement : OneAnswer → OneRequest → (words words' : List (List ℕ)) (files : List FileEntry) (folder folder' other other' : FolderState) (report report' sink sink' : SinkState) → AskForTheSame words words'
    → folder.files ≡ Some files → other.files ≡ Some files → IsDone words folder folder' report report' → IsDone words' other other' sink sink' → AreAlike folder' other' report report' sink sink'
same_placement one ask words words' files folder folder' other other' report report' sink sink' same known known' h k =
    let mine : h.due.request ≡ same.request = ask words h.due.request same.request h.due.asked same.asked in
    let theirs : k.due.request ≡ same.request' = ask words' k.due.request same.request' k.due.asked same.asked' in
    let flow = flow_as files folder.files h.due.request same.request same.request'.source same.request'.rounds h.placed known mine same.source same.rounds h.due.flow in
    let flow' = flow_as files other.files k.due.request same.request' same.request'.source same.request'.rounds k.placed known' theirs refl refl k.due.flow in
    let placed : h.placed ≡ k.placed = placed_once h.placed k.placed (one_end one files same.request'.source None same.request'.rounds (Ok h.placed) (Ok k.placed) flow flow') in
    let out : h.due.request.out ≡ k.due.request.out = ap (λ (r : RequestValue). r.out) mine ∙ same.out ∙ sym (ap (λ (r : RequestValue). r.out) theirs) in
    let A : List ℕ → Type 0 = λ text. Appends sink.written sink'.written text in
    record {
      files = h.file ∙ same_files folder.files other.files h.due.request.out k.due.request.out h.placed.file k.placed.file (known ∙ sym known') out (ap (λ (p : PlacedValue). p.file) placed) ∙ sym k.file;
      text = h.placed.report;
      put = h.got;
      put' = subst A (sym (ap (λ (p : PlacedValue). p.report) placed)) k.got;
    }

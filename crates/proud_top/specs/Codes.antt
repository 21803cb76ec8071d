-- The exit status of each status of a run.
use Rattle.std.specs.Prelude.{◌≡◌, ◌⊎◌, ℕ, List, Some}
use Rattle.book_outer.specs.Files.{FileEntry}
use Rattle.book_outer.specs.State.{FolderState, SinkState}
use Rattle.proud_top.specs.declared.status.Refusal.{Refusal}
use Rattle.proud_top.specs.declared.status.Status.{Status}
use Rattle.proud_top.specs.declared.status.Status.TheVariants.{Done, Usage, Refused, ReadFault, WriteFault, Memory}
use Rattle.proud_top.specs.Statuses.{Says, HasNoRequest, IsCause, IsPlaceable, AreReadsCalm, AreWritesCalm, ArePutsCalm}

abbrev pub code_of : Status → ℕ
code_of Done = 0
code_of Usage = 1
code_of (Refused refusal) = 2
code_of (ReadFault kind) = 3
code_of WriteFault = 4
code_of Memory = 5

-- The run on the words came to a status, which says why and what stands then; the exit status is that status's code. Words that ask
-- for nothing leave the folder as it is; a refusal comes where there is its cause, and a placement where nothing is in its way, unless
-- memory is wanting.
pub record IsExit (words : List (List ℕ)) (folder folder' : FolderState) (report report' : SinkState) (code : ℕ) : Type 0 where
  pub status : Status
  pub says : Says status words folder folder' report report'
  pub coded : code ≡ code_of status
  pub misused : HasNoRequest words → ((status ≡ Usage) ⊎ (status ≡ Memory)) × (folder' ≡ folder)
  pub only_refused : (files : List FileEntry) (refusal : Refusal) → folder.files ≡ Some files → IsCause words (Some files) refusal → AreReadsCalm folder folder'
      → (status ≡ Refused refusal) ⊎ (status ≡ Memory)
  pub complete : (files : List FileEntry) → folder.files ≡ Some files → IsPlaceable words files → AreReadsCalm folder folder' → AreWritesCalm folder folder'
      → ArePutsCalm report report' → (status ≡ Done) ⊎ (status ≡ Memory)

-- The reading of the schedule behind the files of the source.
use Rattle.std.specs.Prelude.{◌≡◌, ℕ, List, Option, Some, None, IfSome, Result, Ok, Err}
use Rattle.book_outer.specs.Cause.{Rose}
use Rattle.book_outer.specs.State.{FolderState}
use Rattle.book_files.specs.declared.records.FileKind.TheVariants.{Schedule}
use Rattle.book_files.specs.declared.schedule.Event.{Event}
use Rattle.proud_top.specs.declared.stop.Stop.{Stop}
use Rattle.proud_top.specs.declared.stop.Stop.TheVariants.{ReadFault, Refused, Memory}
use Rattle.proud_top.specs.Accepted.{IsAccepted}
use Rattle.proud_top.specs.Flow.{reads_events, last_kind}
use Rattle.proud_top.specs.Forms.Gathering.{BeginsOne}
use Rattle.proud_top.specs.Forms.Stops.{IsNameless}

-- What stopped the reading of the schedule of the name; no read fault was counted but at a fault.
abbrev pub StopsEvents : List ℕ → FolderState → FolderState → Stop → Type 0
StopsEvents name old new (Refused refusal) = BeginsOne name old new × (new.read_faults ≡ old.read_faults) × IfSome old.files (λ files. reads_events files name (Err refusal))
    × (new.missed ≡ old.missed) × (last_kind refusal ≡ Schedule) × IsNameless refusal
StopsEvents name old new (ReadFault kind) = BeginsOne name old new × (kind ≡ Schedule) × Rose old.read_faults new.read_faults
StopsEvents name old new Memory = BeginsOne name old new × (new.read_faults ≡ old.read_faults)

-- the schedule of the name was read, or what stopped that
abbrev pub Follows : List ℕ → FolderState → FolderState → Result (List Event) Stop → Type 0
Follows name old new (Ok events) = BeginsOne name old new × (new.read_faults ≡ old.read_faults) × IfSome old.files (λ files. IsAccepted files name Schedule) × (new.missed ≡ old.missed)
Follows name old new (Err stop) = StopsEvents name old new stop

-- the schedule was read, where one is named, and else nothing of the folder was touched; or what stopped its reading
abbrev pub Names : Option (List ℕ) → FolderState → FolderState → Result (Option (List Event)) Stop → Type 0
Names None old new (Ok None) = new ≡ old
Names None old new (Ok (Some events)) = ⊥
Names None old new (Err stop) = ⊥
Names (Some name) old new (Ok None) = ⊥
Names (Some name) old new (Ok (Some events)) = Follows name old new (Ok events)
Names (Some name) old new (Err stop) = StopsEvents name old new stop

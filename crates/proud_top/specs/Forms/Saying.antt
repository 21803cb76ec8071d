-- What the puts answer: that of a text to the report, that of the output file, and both.
use Rattle.std.specs.Prelude.{◌≡◌, ◌⊎◌, ℕ, List, Result, Ok, Err}
use Rattle.std.specs.Io.KnownBytes.{Appends}
use Rattle.book_outer.specs.Cause.{Rose}
use Rattle.book_outer.specs.State.{FolderState, SinkState}
use Rattle.book_outer.specs.declared.trouble.Trouble.{Trouble}
use Rattle.book_outer.specs.declared.trouble.Trouble.TheVariants as trouble
use Rattle.proud_top.specs.declared.status.Status.{Status}
use Rattle.proud_top.specs.declared.status.Status.TheVariants.{Done, Usage, Refused, ReadFault, WriteFault, Memory}
use Rattle.proud_top.specs.Flow.{PlacedValue}
use Rattle.proud_top.specs.Statuses.{HasFile, HasFront, GotFront, IsUnwritten, IsPutUpTo}

-- What a put answers: the one status where all bytes stand, the other where it failed, and Memory where memory was wanting.
abbrev pub Puts : List ℕ → Status → Status → SinkState → SinkState → Status → Type 0
Puts text done failed old new result = ((result ≡ done) × Appends old.written new.written text × (new.faults ≡ old.faults))
    ⊎ (((result ≡ failed) × Rose old.faults new.faults × GotFront old new text) ⊎ ((result ≡ Memory) × GotFront old new text × (new.faults ≡ old.faults)))

-- The file of the name holds the text; or a front of it, or is as before, and then a failed write was counted.
abbrev pub Writes : List ℕ → List ℕ → FolderState → FolderState → Result (Unit {0}) Trouble → Type 0
Writes name text old new (Ok done) = HasFile name text old new × (new.write_faults ≡ old.write_faults)
Writes name text old new (Err trouble.Failed) = Rose old.write_faults new.write_faults × ((new.files ≡ old.files) ⊎ HasFront name text old new)
Writes name text old new (Err trouble.Memory) = (new.write_faults ≡ old.write_faults) × ((new.files ≡ old.files) ⊎ HasFront name text old new)

-- both texts stand, or one of them couldn't be written, or memory was wanting
abbrev pub Delivers : List ℕ → PlacedValue → FolderState → FolderState → SinkState → SinkState → Status → Type 0
Delivers name placed folder folder' report report' Done = HasFile name placed.file folder folder' × (folder'.write_faults ≡ folder.write_faults)
    × Appends report.written report'.written placed.report × (report'.faults ≡ report.faults)
Delivers name placed folder folder' report report' WriteFault = IsUnwritten name placed folder folder' report report'
Delivers name placed folder folder' report report' Memory = IsPutUpTo name placed folder folder' report report' × (folder'.write_faults ≡ folder.write_faults) × (report'.faults ≡ report.faults)
Delivers name placed folder folder' report report' Usage = ⊥
Delivers name placed folder folder' report report' (Refused refusal) = ⊥
Delivers name placed folder folder' report report' (ReadFault kind) = ⊥

-- The step of the schedule's reader, and that a text has no more events than bytes.
use Rattle.std.proofs.Common.{◌≡◌, ℕ, ◌≤◌, List, [], ◌∷◌, ◌++◌, length, Ok, sym, ap, ◌∙◌, arith}
use Rattle.book_text.specs.Lines.{NumberedLine, content_of}
use Rattle.book_files.specs.declared.schedule.Event.{Event}
use Rattle.book_files.specs.declared.schedule.EventsSoFar.{EventsSoFar}
use Rattle.book_files.specs.Forms.Schedule.{event_of, event_form}
use Rattle.book_files.specs.Forms.Progress.{StandsFor}
use Rattle.book_files.specs.Forms.SoFar.{AreEventsSoFar}
use Rattle.book_files.proofs.FormTexts.{Reads}
use Rattle.book_files.proofs.FewRecords.{length-mean, length-content_of-le}
use Rattle.book_files.proofs.Progresses.{kept}

pub event_kept : (line : NumberedLine) (old new : EventsSoFar) (event : Event) → event_of line.words ≡ Ok event → new.events.items ≡ old.events.items ++ event ∷ []
    → (lines : List NumberedLine) → StandsFor event_form AreEventsSoFar old lines → StandsFor event_form AreEventsSoFar new (lines ++ line ∷ [])
event_kept line old new event means pushed lines before =
    kept event_form AreEventsSoFar lines line old new event (λ items so_far. (means, ap (λ its. its ++ event ∷ []) so_far ∙ sym pushed)) before

pub events_few : (text : List ℕ) (events : List Event) → Reads event_form text events → length events ≤ length text
events_few text events reads = let same : reads.items ≡ events = let e = reads.make in cc in
    omega (arith, ap length same, length-mean event_form [] (content_of text) reads.items reads.mean, length-content_of-le text)

-- The rules of a schedule: each line is an event, and there is no header.
use Rattle.std.specs.Prelude.{◌≡◌, ℕ, ◌≤◌, List, length, IsTrue}
use Rattle.book_text.specs.Lines.{NumberedLine}
use Rattle.book_files.specs.declared.fault.TextKind.{TextKind}
use Rattle.book_files.specs.declared.fault.TextKind.TheVariants.{BadHeader, BadLine, BadNumber, CountMismatch}
use Rattle.book_files.specs.declared.schedule.Event.{Event}
use Rattle.book_files.specs.declared.schedule.TheConstants.{MOST_NUMBER}
use Rattle.book_files.specs.Grammar.{Grammar}
use Rattle.book_files.specs.Words.{is_keyword}
use Rattle.book_files.specs.Shapes.{word_at, IsWhole}
use Rattle.book_files.specs.Schedule.{keyword_of, seat_of, point_of}

-- the word spells a number that a seat or a point may have
abbrev pub IsEventNumber : List ℕ → ℕ → Type 0
IsEventNumber word n = IsWhole word n × (n ≤ MOST_NUMBER)

-- the line is the event's: its keyword, its seat and its point, and nothing else
pub record IsEventLine (line : NumberedLine) (event : Event) : Type 0 where
  pub three : length line.words ≡ 3
  pub keyword : IsTrue (is_keyword (keyword_of event) (word_at line.words 0))
  pub seat : IsEventNumber (word_at line.words 1) (seat_of event)
  pub point : IsEventNumber (word_at line.words 2) (point_of event)

-- whatever stands before it
abbrev pub IsScheduleItem : List Event → NumberedLine → Event → Type 0
IsScheduleItem before line event = IsEventLine line event

-- a line that is no event is bad, and nothing else is named
abbrev pub IsScheduleLineFault : List Event → NumberedLine → TextKind → Type 0
IsScheduleLineFault before line BadHeader = ⊥
IsScheduleLineFault before line BadLine = (event : Event) → IsEventLine line event → ⊥
IsScheduleLineFault before line BadNumber = ⊥
IsScheduleLineFault before line (CountMismatch stated found) = ⊥

-- the schedule is the events in order
abbrev pub IsSchedule : List Event → List Event → Type 0
IsSchedule items events = events ≡ items

-- nothing is named at the end
abbrev pub schedule_grammar : Grammar Event (List Event)
schedule_grammar = record { IsItem = IsScheduleItem; IsLineFault = IsScheduleLineFault; IsFile = IsSchedule; IsEndFault = λ items kind. ⊥ }

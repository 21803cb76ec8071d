-- A schedule: lines of a keyword, a seat and a point.
use Rattle.std.specs.Prelude.{ℕ, List, [], ◌∷◌, codes, nat_le, Result, Ok, Err, if◌then◌else◌}
use Rattle.book_text.specs.Lines.{NumberedLine}
use Rattle.book_text.specs.Whole.{whole_value}
use Rattle.book_text.specs.declared.number.NumberFault.{NumberFault}
use Rattle.book_files.specs.declared.fault.TextKind.{TextKind}
use Rattle.book_files.specs.declared.fault.TextKind.TheVariants.{BadLine}
use Rattle.book_files.specs.declared.schedule.Event.{Event}
use Rattle.book_files.specs.declared.schedule.Event.TheVariants.{Load, Renew}
use Rattle.book_files.specs.declared.schedule.TheConstants.{MOST_NUMBER}
use Rattle.book_files.specs.Words.{is_keyword}
use Rattle.book_files.specs.Forms.Form.{Form}
use Rattle.book_files.specs.Forms.Words.{◌>>=◌}

-- a number in its range, or BadLine
abbrev pub number_in : Result ℕ NumberFault → Result ℕ TextKind
number_in (Ok n) = if nat_le n MOST_NUMBER then Ok n else Err BadLine
number_in (Err fault) = Err BadLine

abbrev pub number_of : List ℕ → Result ℕ TextKind
number_of word = number_in (whole_value word)

-- the event of a keyword
abbrev pub event_by : List ℕ → ℕ → ℕ → Result Event TextKind
event_by keyword seat point = if is_keyword (codes "load") keyword then Ok (Load seat point) else (if is_keyword (codes "renew") keyword then Ok (Renew seat point) else Err BadLine)

abbrev pub event_of : List (List ℕ) → Result Event TextKind
event_of (keyword ∷ seat ∷ point ∷ []) = number_of seat >>= λ s. number_of point >>= λ p. event_by keyword s p
event_of [] = Err BadLine
event_of (keyword ∷ []) = Err BadLine
event_of (keyword ∷ seat ∷ []) = Err BadLine
event_of (keyword ∷ seat ∷ point ∷ more ∷ rest) = Err BadLine

abbrev pub event_meaning : List Event → NumberedLine → Result Event TextKind
event_meaning before line = event_of line.words

abbrev pub event_ending : List Event → Result (List Event) TextKind
event_ending items = Ok items

abbrev pub event_form : Form Event (List Event)
event_form = record { meaning = event_meaning; ending = event_ending }

-- The events of a schedule: a keyword, a seat and a point.
use Rattle.std.specs.Prelude.{ℕ, List, codes}
use Rattle.book_files.specs.declared.schedule.Event.{Event}
use Rattle.book_files.specs.declared.schedule.Event.TheVariants.{Load, Renew}

-- the keyword of an event's line, in small letters
abbrev pub keyword_of : Event → List ℕ
keyword_of (Load seat point) = codes "load"
keyword_of (Renew seat point) = codes "renew"

abbrev pub seat_of : Event → ℕ
seat_of (Load seat point) = seat
seat_of (Renew seat point) = seat

abbrev pub point_of : Event → ℕ
point_of (Load seat point) = point
point_of (Renew seat point) = point

-- Two runs that place the same, by any numbers of seats and by any schedules.
use Rattle.std.specs.Prelude.{◌≡◌, ℕ, List}
use Rattle.std.specs.Io.KnownBytes.{Appends}
use Rattle.book_outer.specs.State.{FolderState, SinkState}
use Rattle.proud_words.specs.Request.{RequestValue, IsRequest}

-- both words ask for the same placement: they differ at most in the number of seats and in the schedule
pub record AskForTheSame (words words' : List (List ℕ)) : Type 0 where
  pub request : RequestValue
  pub request' : RequestValue
  pub asked : IsRequest words request
  pub asked' : IsRequest words' request'
  pub source : request.source ≡ request'.source
  pub rounds : request.rounds ≡ request'.rounds
  pub out : request.out ≡ request'.out

-- both runs left the same files, and put the same text behind what their sinks held
pub record AreAlike (folder' other' : FolderState) (report report' sink sink' : SinkState) : Type 0 where
  pub files : folder'.files ≡ other'.files
  pub text : List ℕ
  pub put : Appends report.written report'.written text
  pub put' : Appends sink.written sink'.written text

-- What the words of a command line ask for.
use Rattle.std.specs.Prelude.{◌≡◌, true, ℕ, ◌-◌, ◌≤◌, List, ◌++◌, length, take, drop, codes, bytes_eq, if◌then◌else◌, Option, Some, None, unwrap_or, option_map}
use Rattle.std.specs.Str.Parse.{digits_value, without_leading_plus}
use Rattle.clap.specs.Words.{Row, first_of, matches_of, takes}
use Rattle.grid_design.specs.declared.asked.Grid.{Grid}
use Rattle.grid_design.specs.Asked.{IsGridWord}
use Rattle.level_run.specs.declared.rounds.TheConstants.{MOST_ROUNDS}
use Rattle.level_run.specs.declared.rounds.Rounds.{Rounds}
use Rattle.level_run.specs.Rounds.{rounds_in}
use Rattle.proud_words.specs.declared.request.TheConstants.{USUAL_LEVELS, USUAL_PASSES, USUAL_SEATS}
use Rattle.proud_words.specs.Command.{proud_command}

-- what is placed: the design that an aux file of this name describes, or a generated one
pub data SourceValue : Type 0 where
  of_design : List ℕ → SourceValue
  of_grid : Grid → SourceValue

-- how often the regions are cut and each level is solved, how many seats solve a system, the name of the output file, that of a schedule file, where one is
-- named, and what is placed
pub record RequestValue : Type 0 where
  pub rounds : Rounds
  pub seats : ℕ
  pub out : List ℕ
  pub schedule : Option (List ℕ)
  pub source : SourceValue

-- the number that a whole word writes
abbrev pub number_of : List ℕ → ℕ
number_of word = digits_value 10 (without_leading_plus word)

-- exactly one of the two texts stands, DESIGN or that of `--grid`, and names the source
abbrev pub IsSource : Option (List ℕ) → Option (List ℕ) → SourceValue → Type 0
IsSource (Some design) None (of_design name) = name ≡ design
IsSource None (Some word) (of_grid grid) = IsGridWord word grid
IsSource design word source = ⊥

-- a name without a final `.aux`
abbrev pub stem : List ℕ → List ℕ
stem name = if bytes_eq (drop (length name - 4) name) (codes ".aux") then take (length name - 4) name else name

-- the output file's name where the words give none
abbrev pub usual_out : SourceValue → List ℕ
usual_out (of_design name) = stem name ++ codes ".proud.pl"
usual_out (of_grid grid) = codes "grid.proud.pl"

-- the matches say what is asked for: each argument's text, or what is usual where it has none; and not too many rounds
pub record IsReading (matches : List Row) (request : RequestValue) : Type 0 where
  pub levels : request.rounds.levels ≡ unwrap_or (option_map number_of (first_of (codes "levels") matches)) USUAL_LEVELS
  pub passes : request.rounds.passes ≡ unwrap_or (option_map number_of (first_of (codes "passes") matches)) USUAL_PASSES
  pub few : rounds_in request.rounds ≤ MOST_ROUNDS
  pub seats : request.seats ≡ unwrap_or (option_map number_of (first_of (codes "seats") matches)) USUAL_SEATS
  pub source : IsSource (first_of (codes "DESIGN") matches) (first_of (codes "grid") matches) request.source
  pub out : request.out ≡ unwrap_or (first_of (codes "out") matches) (usual_out request.source)
  pub schedule : request.schedule ≡ first_of (codes "schedule") matches

-- the command takes the words, of which the first is the program's name, and its matches say what is asked for
pub record IsRequest (words : List (List ℕ)) (request : RequestValue) : Type 0 where
  pub taken : takes proud_command words ≡ true
  pub reading : IsReading (matches_of proud_command words) request

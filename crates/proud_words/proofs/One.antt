-- Words ask for one request at most, whose numbers lie in their ranges.
use Rattle.std.proofs.Common.{◌≡◌, ◌∙◌, ◌≤◌, sym, ap, arith, List, Option, Some, None}
use Rattle.std.specs.Prelude.{ℕ, IfSome, codes, unwrap_or, option_map}
use Rattle.clap.specs.Words.{IsUnsignedIn, Row, first_of, matches_of}
use Rattle.grid_design.specs.declared.asked.Grid.{Grid}
use Rattle.grid_design.specs.Asked.{IsGridWord}
use Rattle.relax_crew.specs.Crew.{IsCrewSize}
use Rattle.relax_crew.specs.declared.range.TheConstants.{MOST_SEATS}
use Rattle.level_run.specs.declared.rounds.TheConstants.{MOST_LEVELS, MOST_PASSES}
use Rattle.level_run.specs.declared.rounds.Rounds.{Rounds}
use Rattle.level_run.specs.Rounds.{IsInLimits}
use Rattle.proud_words.specs.declared.request.TheConstants.{USUAL_LEVELS, USUAL_PASSES, USUAL_SEATS}
use Rattle.proud_words.specs.Command.{proud_command}
use Rattle.proud_words.specs.Request.{IsReading, IsRequest, IsSource, RequestValue, SourceValue, number_of, of_design, of_grid, usual_out}
use Rattle.proud_words.proofs.Taken.{taken_numbers}

abbrev OneGrid : Type 0
OneGrid = (word : List ℕ) (a b : Grid) → IsGridWord word a → IsGridWord word b → a ≡ b

one_source : OneGrid → (design word : Option (List ℕ)) (a b : SourceValue) → IsSource design word a → IsSource design word b → a ≡ b
one_source one (Some design) None (of_design a) (of_design b) x y = ap of_design (x ∙ sym y)
one_source one None (Some word) (of_grid a) (of_grid b) x y = ap of_grid (one word a b x y)
one_source one (Some design) None (of_design a) (of_grid b) x y = absurd y
one_source one (Some design) None (of_grid a) b x y = absurd x
one_source one None (Some word) (of_grid a) (of_design b) x y = absurd y
one_source one None (Some word) (of_design a) b x y = absurd x
one_source one None None a b x y = absurd x
one_source one (Some design) (Some word) a b x y = absurd x

same_rounds : (a b : Rounds) → a.levels ≡ b.levels → a.passes ≡ b.passes → a ≡ b
same_rounds a b l p = λ i. record { levels = l i; passes = p i }

same_request : (a b : RequestValue) → a.rounds ≡ b.rounds → a.seats ≡ b.seats → a.out ≡ b.out → a.schedule ≡ b.schedule → a.source ≡ b.source → a ≡ b
same_request a b l s o e p = λ i. record { rounds = l i; seats = s i; out = o i; schedule = e i; source = p i }

one_reading : OneGrid → (matches : List Row) (a b : RequestValue) → IsReading matches a → IsReading matches b → a ≡ b
one_reading one matches a b x y =
    let source = one_source one _ _ a.source b.source x.source y.source in
    same_request a b (same_rounds a.rounds b.rounds (x.levels ∙ sym y.levels) (x.passes ∙ sym y.passes)) (x.seats ∙ sym y.seats) (x.out ∙ ap (λ (s : SourceValue). unwrap_or (first_of (codes "out") matches) (usual_out s)) source ∙ sym y.out) (x.schedule ∙ sym y.schedule) source

pub one_asked : OneGrid → (words : List (List ℕ)) (a b : RequestValue) → IsRequest words a → IsRequest words b → a ≡ b
one_asked one words a b x y = one_reading one (matches_of proud_command words) a b x.reading y.reading

-- the number of an option's text, or a usual one, in a range that has both
ranged : (low high usual : ℕ) (text : Option (List ℕ)) → low ≤ usual → usual ≤ high → IfSome text (IsUnsignedIn low high)
    → (low ≤ unwrap_or (option_map number_of text) usual) × (unwrap_or (option_map number_of text) usual ≤ high)
ranged low high usual None least most pass = (least, most)
ranged low high usual (Some text) least most pass = (pass.2, pass.3)

pub rounds_in_limits : (words : List (List ℕ)) (request : RequestValue) → IsRequest words request → IsInLimits request.rounds
rounds_in_limits words request asked =
    let numbers = taken_numbers words asked.taken in
    let levels = ranged 0 MOST_LEVELS USUAL_LEVELS _ (omega arith) (omega arith) numbers.levels in
    let passes = ranged 1 MOST_PASSES USUAL_PASSES _ (omega arith) (omega arith) numbers.passes in
    record { levels = rw asked.reading.levels levels.1; some = rw asked.reading.passes passes.0; passes = rw asked.reading.passes passes.1; few = asked.reading.few }

pub crew_seats : (words : List (List ℕ)) (request : RequestValue) → IsRequest words request → IsCrewSize request.seats
crew_seats words request asked =
    let range = ranged 1 MOST_SEATS USUAL_SEATS _ (omega arith) (omega arith) (taken_numbers words asked.taken).seats in
    rw asked.reading.seats range

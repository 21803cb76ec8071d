-- From the texts that the matches give to what they ask for.
use Rattle.std.proofs.Common.{◌≡◌, ◌+◌, ◌*◌, ◌<◌, ◌∙◌, sym, ap, ap₂, subst, arith, List, Option, Some, None, Ok, Err, IfErr, IsErrAnd}
use Rattle.std.specs.Prelude.{ℕ, Result, IfSome, codes, option_map, unwrap_or}
use Rattle.std.specs.Borrow.{Bor}
use Rattle.clap.specs.Words.{Row, first_of, first_value, rows_of}
use Rattle.clap.specs.declared.parser.matches.Found.{Found}
use Rattle.clap.proofs.WalkLemmas.{first_value-rows}
use Rattle.level_run.specs.declared.rounds.TheConstants.{MOST_ROUNDS}
use Rattle.proud_words.specs.declared.fault.WordsFault.{WordsFault}
use Rattle.proud_words.specs.declared.fault.WordsFault.TheVariants.{Usage}
use Rattle.proud_words.specs.declared.request.Request.{Request}
use Rattle.proud_words.specs.declared.request.TheConstants.{USUAL_LEVELS, USUAL_PASSES}
use Rattle.proud_words.specs.Forms.Texts.{text_in}
use Rattle.proud_words.specs.Request.{IsReading, IsSource, RequestValue, SourceValue, number_of}

-- the text of an id is that of its row
pub text_read : (found : Found) (id : List ℕ) (text : Option (Bor (List ℕ))) → text_in text ≡ first_value found id → text_in text ≡ first_of id (rows_of found)
text_read found id text e = e ∙ first_value-rows found id

-- what holds of a text holds behind the reference
pub holds_in : (P : List ℕ → Type 0) (text : Option (Bor (List ℕ))) (row : Option (List ℕ)) → text_in text ≡ row → IfSome row P → IfSome text (λ t. P t.now)
holds_in P text row e h = by_text text (subst (λ (o : Option (List ℕ)). IfSome o P) (sym e) h)
  where
    by_text : (o : Option (Bor (List ℕ))) → IfSome (text_in o) P → IfSome o (λ t. P t.now)
    by_text None h = tt
    by_text (Some t) h = h

-- where the two texts name no source, the matches ask for nothing
pub no_source : (matches : List Row) (r : Result Request WordsFault) (e : WordsFault) (design word : Option (List ℕ))
    → design ≡ first_of (codes "DESIGN") matches → word ≡ first_of (codes "grid") matches → (e ≡ Usage → (source : SourceValue) → IsSource design word source → ⊥)
    → IsErrAnd r (λ fault. fault ≡ e) → IfErr r (λ fault. fault ≡ Usage → (request : RequestValue) → IsReading matches request → ⊥)
no_source matches (Ok x) e design word is_design is_word none same = tt
no_source matches (Err fault) e design word is_design is_word none same = λ usage request reading.
    none (sym same ∙ usage) request.source (subst (λ (o : Option (List ℕ)). IsSource o word request.source) (sym is_design)
    (subst (λ (o : Option (List ℕ)). IsSource (first_of (codes "DESIGN") matches) o request.source) (sym is_word) reading.source))

-- where the two texts ask for too many rounds, the matches ask for nothing
pub too_many : (matches : List Row) (r : Result Request WordsFault) (levels passes : Option (List ℕ)) → levels ≡ first_of (codes "levels") matches → passes ≡ first_of (codes "passes") matches
    → MOST_ROUNDS < (unwrap_or (option_map number_of levels) USUAL_LEVELS + 1) * unwrap_or (option_map number_of passes) USUAL_PASSES
    → IfErr r (λ fault. fault ≡ Usage → (request : RequestValue) → IsReading matches request → ⊥)
too_many matches (Ok x) levels passes is_levels is_passes many = tt
too_many matches (Err fault) levels passes is_levels is_passes many = λ usage request reading.
    let said : request.rounds.levels ≡ unwrap_or (option_map number_of levels) USUAL_LEVELS = reading.levels ∙ ap (λ (o : Option (List ℕ)). unwrap_or (option_map number_of o) USUAL_LEVELS) (sym is_levels) in
    let said_too : request.rounds.passes ≡ unwrap_or (option_map number_of passes) USUAL_PASSES = reading.passes ∙ ap (λ (o : Option (List ℕ)). unwrap_or (option_map number_of o) USUAL_PASSES) (sym is_passes) in
    let same = ap₂ (λ (l p : ℕ). (l + 1) * p) said said_too in
    let few = reading.few in
    omega (arith, same, few, many)

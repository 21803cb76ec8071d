use Rattle.std.proofs.Common.{◌∙◌, ap, subst, List, Option}
use Rattle.std.specs.Prelude.{ℕ, codes, option_map, unwrap_or}
use Rattle.clap.specs.Words.{IsUnsignedIn, first_of, found_of, rows_of}
use Rattle.level_run.specs.declared.rounds.TheConstants.{MOST_LEVELS, MOST_PASSES}
use Rattle.relax_crew.specs.declared.range.TheConstants.{MOST_SEATS}
use Rattle.proud_words.specs.declared.request.TheConstants.{USUAL_LEVELS, USUAL_PASSES, USUAL_SEATS}
use Rattle.proud_words.specs.Asked.{source_value}
use Rattle.proud_words.specs.Forms.Texts.{text_in}
use Rattle.proud_words.specs.Request.{IsSource, number_of, usual_out}
use Rattle.proud_words.proofs.Reading.{holds_in, no_source, text_read, too_many}
use Rattle.proud_words.proofs.request.request_of.Goals as goal

pub returns-in_err-source-clause-usage : goal.returns-in_err-source-clause-usage
returns-in_err-source-clause-usage c =
    let found = found_of c.args.matches.now in
    no_source (rows_of found) c.from_residual.result _ (text_in c.get_str.result) (text_in c.get_str-2.result) (text_read found (codes "DESIGN") c.get_str.result c.get_str.ensures)
    (text_read found (codes "grid") c.get_str-2.result c.get_str-2.ensures) c.in_err-source.ensures.usage c.from_residual.ensures.1

pub rounds_of-requires-clause-levels : goal.rounds_of-requires-clause-levels
rounds_of-requires-clause-levels c =
    let found = found_of c.args.matches.now in
    holds_in (IsUnsignedIn 0 MOST_LEVELS) c.get_str-3.result (first_of (codes "levels") (rows_of found)) (text_read found (codes "levels") c.get_str-3.result c.get_str-3.ensures) c.requires.numbers.levels

pub rounds_of-requires-clause-passes : goal.rounds_of-requires-clause-passes
rounds_of-requires-clause-passes c =
    let found = found_of c.args.matches.now in
    holds_in (IsUnsignedIn 1 MOST_PASSES) c.get_str-4.result (first_of (codes "passes") (rows_of found)) (text_read found (codes "passes") c.get_str-4.result c.get_str-4.ensures) c.requires.numbers.passes

-- where there are too many rounds, the words ask for nothing
pub seats_of-requires : goal.seats_of-requires
seats_of-requires c =
    let found = found_of c.args.matches.now in
    holds_in (IsUnsignedIn 1 MOST_SEATS) c.get_str-5.result (first_of (codes "seats") (rows_of found)) (text_read found (codes "seats") c.get_str-5.result c.get_str-5.ensures) c.requires.numbers.seats

pub returns-clause-asked : goal.returns-clause-asked
returns-clause-asked c =
    let found = found_of c.args.matches.now in
    let rows = rows_of found in
    let design = text_read found (codes "DESIGN") c.get_str.result c.get_str.ensures in
    let grid = text_read found (codes "grid") c.get_str-2.result c.get_str-2.ensures in
    let levels = text_read found (codes "levels") c.get_str-3.result c.get_str-3.ensures in
    let passes = text_read found (codes "passes") c.get_str-4.result c.get_str-4.ensures in
    let seats = text_read found (codes "seats") c.get_str-5.result c.get_str-5.ensures in
    let out = text_read found (codes "out") c.get_str-6.result c.get_str-6.ensures in
    let schedule = text_read found (codes "schedule") c.get_str-7.result c.get_str-7.ensures in
    let source = source_value c.in_ok-source.source in
    record {
      levels = c.in_ok-rounds.ensures.levels ∙ ap (λ (o : Option (List ℕ)). unwrap_or (option_map number_of o) USUAL_LEVELS) levels;
      passes = c.in_ok-rounds.ensures.passes ∙ ap (λ (o : Option (List ℕ)). unwrap_or (option_map number_of o) USUAL_PASSES) passes;
      few = c.in_ok-rounds.ensures.limits.few;
      seats = c.seats_of.ensures.number ∙ ap (λ (o : Option (List ℕ)). unwrap_or (option_map number_of o) USUAL_SEATS) seats;
      source = subst (λ (o : Option (List ℕ)). IsSource o (first_of (codes "grid") rows) source) design
          (subst (λ (o : Option (List ℕ)). IsSource (text_in c.get_str.result) o source) grid c.in_ok-source.ensures.source);
      out = c.in_ok-out_of.ensures ∙ ap (λ (o : Option (List ℕ)). unwrap_or o (usual_out source)) out;
      schedule = c.in_ok-schedule_of.ensures ∙ schedule;
    }

pub returns-in_err-rounds-clause-usage : goal.returns-in_err-rounds-clause-usage
returns-in_err-rounds-clause-usage c =
    let found = found_of c.args.matches.now in
    too_many (rows_of found) c.from_residual-in_err-rounds.result (text_in c.get_str-3.result) (text_in c.get_str-4.result) (text_read found (codes "levels") c.get_str-3.result c.get_str-3.ensures)
    (text_read found (codes "passes") c.get_str-4.result c.get_str-4.ensures) c.in_err-rounds.ensures.usage

-- What the command of the program takes.
use Rattle.std.proofs.Common.{◌≡◌, true, false, refl, List, [], Option, Some, None, is_some, codes}
use Rattle.std.specs.Prelude.{ℕ, IfSome}
use Rattle.clap.proofs.ValueTestLemmas.{accepts-Accepts}
use Rattle.clap.proofs.WalkLemmas.{both}
use Rattle.clap.specs.Words.{IsUnsignedIn, Rule, Text, first_of, is_simple, matches_of, takes}
use Rattle.clap.specs.Faults.{fault_of, is_simple_and_free}
use Rattle.clap.specs.Simple.{App, argument_words, built, entered, names_of}
use Rattle.clap.specs.Takes.{entered_passes, value_passes}
use Rattle.clap.specs.Walk.{nothing_held, walk}
use Rattle.clap.specs.declared.builder.value_parser.ValueParser.TheVariants.{Unsigned}
use Rattle.relax_crew.specs.declared.range.TheConstants.{MOST_SEATS}
use Rattle.level_run.specs.declared.rounds.TheConstants.{MOST_LEVELS, MOST_PASSES}
use Rattle.proud_words.specs.Command.{levels_rule, passes_rule, proud_command, seats_rule}
use Rattle.proud_words.specs.Forms.Texts.{HasNumbers}
use Rattle.proud_words.proofs.Passing.{Setting, level_text}
use Rattle.proud_words.proofs.Taking.{and_true, level_take}
use Rattle.clap.specs.Simple.{filled, with_index}

-- the command as it is built
abbrev whole : App
whole = built proud_command

pub simple : is_simple proud_command ≡ true
simple = refl

pub simple_and_free : is_simple_and_free proud_command ≡ true
simple_and_free = refl

-- no word names a subcommand
no_subcommand : (stop : Option (Text × List Text)) → entered_passes whole stop ≡ true
no_subcommand None = refl
no_subcommand (Some p) = refl

-- words without a fault are taken
pub faultless_taken : (words : List Text) → fault_of proud_command words ≡ [] → takes proud_command words ≡ true
faultless_taken words e =
    let rest = argument_words proud_command words in
    let stop = (walk whole.top.rules (names_of whole) nothing_held rest).stopped in
    and_true _ _ (no_subcommand stop) (level_take whole.top (names_of whole) nothing_held rest (is_some (entered whole stop)) _ refl refl e)

-- what taken words give an argument passes its parser
text_passes : (words : List Text) (id : Text) (a : Rule) (text : Text) → Setting whole.top.rules id a → takes proud_command words ≡ true
    → first_of id (matches_of proud_command words) ≡ Some text → value_passes a text ≡ true
text_passes words id a text s e found =
    let rest = argument_words proud_command words in
    let level = (both _ _ e).1 in
    level_text whole.top (names_of whole) id a rest (is_some (entered whole (walk whole.top.rules (names_of whole) nothing_held rest).stopped)) text s (refl, (refl, (refl, (refl, (refl, (refl, (refl, (refl, tt)))))))) level found

number_passes : (words : List Text) (id : Text) (a : Rule) (low high : ℕ) → Setting whole.top.rules id a → ((text : Text) → value_passes a text ≡ true → IsUnsignedIn low high text)
    → takes proud_command words ≡ true → IfSome (first_of id (matches_of proud_command words)) (IsUnsignedIn low high)
number_passes words id a low high s reads e = by_text (first_of id (matches_of proud_command words)) (λ text found. reads text (text_passes words id a text s e found))
  where
    by_text : (o : Option Text) → ((text : Text) → o ≡ Some text → IsUnsignedIn low high text) → IfSome o (IsUnsignedIn low high)
    by_text None pass = tt
    by_text (Some text) pass = pass text refl

-- the numbers that taken words give lie in their ranges
pub taken_numbers : (words : List Text) → takes proud_command words ≡ true → HasNumbers (matches_of proud_command words)
taken_numbers words e = record {
  levels = number_passes words (codes "levels") (with_index 1 (filled levels_rule)) 0 MOST_LEVELS (record { rule = refl; each = (refl, (refl, (refl, (refl, (refl, (refl, (refl, (refl, tt)))))))) }) (λ text p. accepts-Accepts false (Unsigned 0 MOST_LEVELS) text p) e;
  passes = number_passes words (codes "passes") (with_index 1 (filled passes_rule)) 1 MOST_PASSES (record { rule = refl; each = (refl, (refl, (refl, (refl, (refl, (refl, (refl, (refl, tt)))))))) }) (λ text p. accepts-Accepts false (Unsigned 1 MOST_PASSES) text p) e;
  seats = number_passes words (codes "seats") (with_index 1 (filled seats_rule)) 1 MOST_SEATS (record { rule = refl; each = (refl, (refl, (refl, (refl, (refl, (refl, (refl, (refl, tt)))))))) }) (λ text p. accepts-Accepts false (Unsigned 1 MOST_SEATS) text p) e;
}

-- What the texts of taken words are.
use Rattle.std.specs.Prelude.{ℕ, List, Option, IfSome, codes, option_map}
use Rattle.std.specs.Borrow.{Bor}
use Rattle.clap.specs.Words.{IsUnsignedIn, Row, first_of}
use Rattle.relax_crew.specs.declared.range.TheConstants.{MOST_SEATS}
use Rattle.level_run.specs.declared.rounds.TheConstants.{MOST_LEVELS, MOST_PASSES}

-- the text behind a reference, where there is one
abbrev pub text_in : Option (Bor (List ℕ)) → Option (List ℕ)
text_in = option_map (λ text. text.now)

-- the texts of the options `--levels`, `--passes` and `--seats`, where they have one, are numbers in their ranges
pub record HasNumbers (matches : List Row) : Type 0 where
  pub levels : IfSome (first_of (codes "levels") matches) (IsUnsignedIn 0 MOST_LEVELS)
  pub passes : IfSome (first_of (codes "passes") matches) (IsUnsignedIn 1 MOST_PASSES)
  pub seats : IfSome (first_of (codes "seats") matches) (IsUnsignedIn 1 MOST_SEATS)

use Rattle.std.proofs.Common.{List, map}
use Rattle.std.specs.Prelude.{ℕ}
use Rattle.std.specs.Borrow.{Bor}
use Rattle.clap.specs.Words.{app_of}
use Rattle.proud_words.proofs.Answering.{numbers_in, parses, reads, reads_none, refused}
use Rattle.proud_words.proofs.request.asked_by.Goals as goal

abbrev texts : List (Bor (List ℕ)) → List (List ℕ)
texts = map (λ (t : Bor (List ℕ)). t.now)

pub returns-in_err-matches-clause-usage : goal.returns-in_err-matches-clause-usage
returns-in_err-matches-clause-usage c =
    refused (app_of c.in_ok-command.command) (texts c.args.words.now) c.in_err-matches.field-0.0 c.from_residual-in_err-matches.result c.in_ok-command.ensures c.in_err-matches.ensures.passes c.from_residual-in_err-matches.ensures.1

pub request_of-requires : goal.request_of-requires
request_of-requires c = record {
  numbers = numbers_in (texts c.args.words.now) c.in_ok-matches.matches
      (parses (app_of c.in_ok-command.command) (texts c.args.words.now) c.in_ok-matches.matches c.in_ok-command.ensures c.in_ok-matches.ensures.kinds c.in_ok-matches.ensures.matches);
}

pub returns-clause-asked : goal.returns-clause-asked
returns-clause-asked c =
    reads (texts c.args.words.now) c.in_ok-matches.matches c.request_of.result
    (parses (app_of c.in_ok-command.command) (texts c.args.words.now) c.in_ok-matches.matches c.in_ok-command.ensures c.in_ok-matches.ensures.kinds c.in_ok-matches.ensures.matches)
    c.request_of.ensures.asked

pub returns-clause-usage : goal.returns-clause-usage
returns-clause-usage c =
    reads_none (texts c.args.words.now) c.in_ok-matches.matches c.request_of.result
    (parses (app_of c.in_ok-command.command) (texts c.args.words.now) c.in_ok-matches.matches c.in_ok-command.ensures c.in_ok-matches.ensures.kinds c.in_ok-matches.ensures.matches)
    c.request_of.ensures.usage

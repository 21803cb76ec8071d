use Rattle.std.proofs.Common.{rules, List, Ok, Err}
use Rattle.book_files.specs.Entries.{PlaceEntry, place_entries}
use Rattle.book_files.specs.Forms.Places.{place_form}
use Rattle.book_files.specs.PlaceRules.{places_grammar}
use Rattle.book_files.proofs.Bridge.{answers_of}
use Rattle.book_files.proofs.PlaceDecides.{places_decided}
use Rattle.book_files.proofs.GoodPlaces.{places_few, places_good}
use Rattle.book_files.proofs.places.read_pl.Goals as goal

pub returns-in_err-keep_lines-clause-reading : goal.returns-in_err-keep_lines-clause-reading
returns-in_err-keep_lines-clause-reading c = answers_of place_form places_grammar places_decided (λ (file : List PlaceEntry). file) c.args.bytes.now c.from_residual.result (search rules)

pub invariant_of-result : goal.invariant_of-result
invariant_of-result c = places_good c.args.bytes.now (place_entries c.keep_lines.new.progress.lines.items) (search rules)

pub returns-then-so_far-clause-reading : goal.returns-then-so_far-clause-reading
returns-then-so_far-clause-reading c =
    answers_of place_form places_grammar places_decided (λ (file : List PlaceEntry). file) c.args.bytes.now (Ok (place_entries c.keep_lines.new.progress.lines.items)) (search rules)

pub returns-then-so_far-clause-few : goal.returns-then-so_far-clause-few
returns-then-so_far-clause-few c = places_few c.args.bytes.now (place_entries c.keep_lines.new.progress.lines.items) (search rules)

pub returns-clause-reading : goal.returns-clause-reading
returns-clause-reading c = answers_of place_form places_grammar places_decided (λ (file : List PlaceEntry). file) c.args.bytes.now (Err c.fault_at_end.result) (search rules)

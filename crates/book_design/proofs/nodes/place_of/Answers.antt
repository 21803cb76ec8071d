use Rattle.std.proofs.Common.{◌≡◌, ◌<◌, ◌∙◌, sym, ap, arith, length, map, Some, None}
use Rattle.std.proofs.lemmas.List.{get_or-map, length-map}
use Rattle.book_files.specs.Entries.{place_entry}
use Rattle.book_design.specs.Forms.Sources.{records_of, place_name}
use Rattle.book_design.proofs.Placing.{last_place_found, found_last}
use Rattle.book_design.proofs.nodes.place_of.Goals as goal

pub returns-in-Some : goal.returns-in-Some
returns-in-Some c =
    let named = sym c.in-Some.is ∙ c.number.ensures in
    let last = found_last (place_name (records_of c.args.records.now)) (length (records_of c.args.records.now).places) c.args.numbers.now c.args.name.now c.in-Some.i named c.requires in
    let e : length (map place_entry c.args.records.now.places.now) ≡ length c.args.records.now.places.now = length-map c.args.records.now.places.now place_entry in
    let there : c.in-Some.i < length c.args.records.now.places.now = let t = last.there in omega arith in
    let here = get_or-map place_entry c.args.records.now.places.now c.in-Some.i _ _ there in
    let found = last_place_found (records_of c.args.records.now) c.args.numbers.now c.args.name.now (Some c.in-Some.i) named c.requires in
    sym (found ∙ ap Some here)

pub returns-in-None : goal.returns-in-None
returns-in-None c = sym (last_place_found (records_of c.args.records.now) c.args.numbers.now c.args.name.now None (sym c.in-None.is ∙ c.number.ensures) c.requires)

use Rattle.std.proofs.Common.{◌≡◌, ◌∙◌, length, map, ap, not, arith}
use Rattle.std.proofs.lemmas.List.{get_or-map, length-map}
use Rattle.book_files.specs.Entries.{place_entry}
use Rattle.book_design.specs.Forms.Sources.{records_of}
use Rattle.book_design.proofs.Netting.{unknown_place, known_place}
use Rattle.book_design.proofs.nets.test_places.Goals as goal

pub loop-place-init : goal.loop-place-init
loop-place-init c = λ k below h. absurd (omega arith)

pub returns-then-is_none : goal.returns-then-is_none
returns-then-is_none c =
    let here = get_or-map place_entry c.args.records.now.places.now c.loop-place.place-index _ _ c.loop-place-test.true in
    let e : length (map place_entry c.args.records.now.places.now) ≡ length c.args.records.now.places.now = length-map c.args.records.now.places.now place_entry in
    unknown_place (records_of c.args.records.now) c.loop-place.place-index _ c.args.numbers.now c.number.result (omega (arith, c.loop-place-test.true)) here c.number.ensures (c.is_none.ensures ∙ ap not c.if-is_none.true) c.requires.numbers c.requires.pins c.loop-place.invariant

pub loop-place-preserved : goal.loop-place-preserved
loop-place-preserved c =
    let here = get_or-map place_entry c.args.records.now.places.now c.loop-place.place-index _ _ c.loop-place-test.true in
    known_place (records_of c.args.records.now) c.loop-place.place-index _ c.args.numbers.now c.number.result here c.number.ensures (c.is_none.ensures ∙ ap not c.if-is_none.false) c.requires.numbers c.loop-place.invariant

pub returns : goal.returns
returns c = λ i h. c.loop-place.invariant i (let e : length (map place_entry c.args.records.now.places.now) ≡ length c.args.records.now.places.now = length-map c.args.records.now.places.now place_entry in let t = h.0 in omega (arith, c.loop-place-test.false)) h

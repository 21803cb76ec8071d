use Rattle.std.proofs.Common.{◌≡◌, length, sym, ap, arith, map}
use Rattle.std.proofs.lemmas.List.{get_or-map, length-map}
use Rattle.book_files.specs.Entries.{place_entry}
use Rattle.book_design.specs.Forms.Sources.{records_of, place_name}
use Rattle.book_design.proofs.Looking.{no_numbers, numbers_more, numbers_whole}
use Rattle.book_design.proofs.numbers.place_numbers.Goals as goal

pub loop-i-init : goal.loop-i-init
loop-i-init c = no_numbers (place_name (records_of c.args.records.now)) c.new-numbers.result c.new-numbers.ensures.empty

pub loop-i-preserved : goal.loop-i-preserved
loop-i-preserved c =
    numbers_more (place_name (records_of c.args.records.now)) c.loop-i.i c.loop-i.numbers c.put.new.numbers _ (sym (ap (λ e. e.name) (get_or-map place_entry c.args.records.now.places.now c.loop-i.i _ _ c.loop-i-test.true))) c.in_ok-put.ensures.after c.loop-i.invariant

pub returns : goal.returns
returns c = let e : length c.args.records.now.places.now ≡ length (map place_entry c.args.records.now.places.now) = sym (length-map c.args.records.now.places.now place_entry) in numbers_whole (place_name (records_of c.args.records.now)) c.loop-i.i _ c.loop-i.numbers (omega arith) c.loop-i.invariant

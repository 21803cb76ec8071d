use Rattle.std.proofs.Common.{◌≡◌, ◌<◌, ◌∙◌, length, map, sym, ap, arith, Some, None, option_map, rules, w64}
use Rattle.std.proofs.lemmas.Int.{to_z-of_z}
use Rattle.std.proofs.lemmas.List.{get_or-map, length-map}
use Rattle.book_files.specs.Entries.{WeightEntry, weight_entry, weight_entries}
use Rattle.book_design.specs.Forms.Sources.{entry_name}
use Rattle.book_design.proofs.Placing.{last_entry_found, found_last}
use Rattle.book_design.proofs.nets.weight_in.Goals as goal

pub returns-in-Some : goal.returns-in-Some
returns-in-Some c =
    let named = sym c.in-Some.is ∙ c.number.ensures in
    let last = found_last (entry_name (weight_entries c.args.lines.now)) (length (weight_entries c.args.lines.now)) c.args.numbers.now c.args.name.now c.in-Some.i named c.requires in
    let e : length (map weight_entry c.args.lines.now) ≡ length c.args.lines.now = length-map c.args.lines.now weight_entry in
    let there : c.in-Some.i < length c.args.lines.now = let t = last.there in omega arith in
    let here = get_or-map weight_entry c.args.lines.now c.in-Some.i _ _ there in
    let found = last_entry_found (weight_entries c.args.lines.now) c.args.numbers.now c.args.name.now (Some c.in-Some.i) named c.requires in
    ap Some (to_z-of_z w64 _ (search rules) ∙ sym (ap (λ (w : WeightEntry). w.weight) here)) ∙ sym (ap (option_map (λ (w : WeightEntry). w.weight)) found)

pub returns-in-None : goal.returns-in-None
returns-in-None c = sym (ap (option_map (λ (w : WeightEntry). w.weight)) (last_entry_found (weight_entries c.args.lines.now) c.args.numbers.now c.args.name.now None (sym c.in-None.is ∙ c.number.ensures) c.requires))

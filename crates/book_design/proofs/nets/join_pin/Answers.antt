use Rattle.std.proofs.Common.{◌∙◌, length, sym, refl, rules, w64}
use Rattle.std.proofs.lemmas.Int.{to_z-of_z}
use Rattle.std.specs.Int.RustNames.{FitsSigned}
use Rattle.book_design.specs.Forms.Sources.{records_of, node_name}
use Rattle.book_design.proofs.Placing.{found_last}
use Rattle.book_design.proofs.Netting.{number_is}
use Rattle.book_design.proofs.nets.join_pin.Goals as goal

pub returns-in-Some : goal.returns-in-Some
returns-in-Some c =
    let last = found_last (node_name (records_of c.args.records.now)) (length (records_of c.args.records.now).nodes) c.args.numbers.now c.args.line.now.node.0.now c.in-Some.i (sym c.in-Some.is ∙ c.number.ensures) c.requires.numbers in
    let x : FitsSigned w64 c.args.line.now.dx.0 = search rules in
    let y : FitsSigned w64 c.args.line.now.dy.0 = search rules in
    (λ unknown. unknown c.in-Some.i last.there last.same, rw (to_z-of_z w64 c.args.line.now.dx.0 x, to_z-of_z w64 c.args.line.now.dy.0 y, number_is (records_of c.args.records.now) c.args.line.now.node.0.now c.in-Some.i c.requires.distinct last) refl)

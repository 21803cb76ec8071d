use Rattle.std.proofs.Common.{◌≡◌, sym, subst}
use Rattle.book_design.specs.declared.fault.DesignFault.{DesignFault}
use Rattle.book_design.specs.Forms.Sources.{records_of}
use Rattle.book_design.specs.Forms.Steps.{IsFirstFrom}
use Rattle.book_design.proofs.ValuesWithin.{none_crowded, first_crowded, none_bad, first_bad, first_end, all_within}
use Rattle.book_design.proofs.limits.test_values.Goals as goal

pub returns-in-Some : goal.returns-in-Some
returns-in-Some c =
    let P : DesignFault → Type 0 = λ e. IsFirstFrom (records_of c.args.records.now) 11 e in
    subst P (sym c.past_limit.ensures) (first_crowded (records_of c.args.records.now) c.args.strips.now c.in-Some.s _ c.requires.strips c.in-Some.ensures)

pub returns-in-Some-bad_weight : goal.returns-in-Some-bad_weight
returns-in-Some-bad_weight c =
    let P : DesignFault → Type 0 = λ e. IsFirstFrom (records_of c.args.records.now) 11 e in
    let eleven = none_crowded (records_of c.args.records.now) c.args.strips.now c.requires.strips c.in_default.ensures in
    subst P (sym c.past_limit-in-Some-bad_weight.ensures)
    (first_bad (records_of c.args.records.now) c.args.weights.now c.in-Some-bad_weight.net c.requires.weights eleven c.in-Some-bad_weight.ensures)

pub returns-in-Some-row_past_end : goal.returns-in-Some-row_past_end
returns-in-Some-row_past_end c =
    let P : DesignFault → Type 0 = λ e. IsFirstFrom (records_of c.args.records.now) 11 e in
    let eleven = none_crowded (records_of c.args.records.now) c.args.strips.now c.requires.strips c.in_default.ensures in
    let twelve = none_bad (records_of c.args.records.now) c.args.weights.now c.requires.weights c.in_default-bad_weight.ensures in
    let named : c.from.result ≡ c.in-Some-row_past_end.row = c.from.ensures in
    subst P (sym c.past_limit-in-Some-row_past_end.ensures)
    (first_end (records_of c.args.records.now) c.in-Some-row_past_end.row c.from.result named eleven twelve c.in-Some-row_past_end.ensures)

pub returns-in-None : goal.returns-in-None
returns-in-None c =
    let eleven = none_crowded (records_of c.args.records.now) c.args.strips.now c.requires.strips c.in_default.ensures in
    let twelve = none_bad (records_of c.args.records.now) c.args.weights.now c.requires.weights c.in_default-bad_weight.ensures in
    all_within (records_of c.args.records.now) eleven twelve c.in-None.ensures
